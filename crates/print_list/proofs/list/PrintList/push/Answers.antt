use Rattle.std.proofs.Common.{◌≡◌, ◌∷◌, [], ◌++◌, List, length, ap, sym, subst, ◌∙◌, rules}
use Rattle.bt_core.specs.declared.item.Item.{Item}
use Rattle.bt_core.specs.declared.item.Item.TheVariants.{Printf}
use Rattle.print_list.specs.declared.list.Print.{Print}
use Rattle.print_list.specs.Prints.{prints_in, AreWithin}
use Rattle.print_list.proofs.PrintLaws.{items_stay, on_err, one_more_item, one_more_within, within_stays}
use Rattle.print_list.proofs.list.PrintList.push.Goals as goal

pub returns-in_err-push_values-clause-err : goal.returns-in_err-push_values-clause-err
returns-in_err-push_values-clause-err c = let l = c.self.inside in
    on_err _ _ (items_stay l.bytes.items c.push_values.new.bytes.items l.prints.items c.push_values.ensures.grown c.self.invariant ∙ c.self.view_is)

pub invariant_of-self-in_err-print : goal.invariant_of-self-in_err-print
invariant_of-self-in_err-print c = let l = c.self.inside in
    within_stays l.bytes.items c.push_values.new.bytes.items l.prints.items c.push_values.ensures.grown c.self.invariant

pub returns-in_err-print-clause-err : goal.returns-in_err-print-clause-err
returns-in_err-print-clause-err c = let l = c.self.inside in
    on_err _ _ (items_stay l.bytes.items c.push_values.new.bytes.items l.prints.items c.push_values.ensures.grown c.self.invariant ∙ c.self.view_is)

pub invariant_of-self-in_err-push : goal.invariant_of-self-in_err-push
invariant_of-self-in_err-push c = let l = c.self.inside in
    subst (AreWithin c.push_values.new.bytes.items) (sym c.in_err-push.ensures.items)
    (within_stays l.bytes.items c.push_values.new.bytes.items l.prints.items c.push_values.ensures.grown c.self.invariant)

pub returns-in_err-push-clause-err : goal.returns-in_err-push-clause-err
returns-in_err-push-clause-err c = let l = c.self.inside in
    on_err _ _ (ap (prints_in c.push_values.new.bytes.items) c.in_err-push.ensures.items
    ∙ items_stay l.bytes.items c.push_values.new.bytes.items l.prints.items c.push_values.ensures.grown c.self.invariant ∙ c.self.view_is)

pub invariant_of-self-2 : goal.invariant_of-self-2
invariant_of-self-2 c = let l = c.self.inside in
    let ends : c.len.result ≡ length c.push_values.new.bytes.items = search rules in
    one_more_within l.bytes.items c.push_values.new.bytes.items l.prints.items c.push.new.self.items c.in_ok-print.print c.args.values.now
    c.self.invariant c.in_ok-push_values.ensures.values c.in_ok-push.ensures.items (ap (λ (p : Print). p.end) c.in_ok-print.ensures ∙ ends)

pub returns-clause-ok : goal.returns-clause-ok
returns-clause-ok c = let l = c.self.inside in
    let starts : c.len-start.result ≡ length l.bytes.items = search rules in
    let ends : c.len.result ≡ length c.push_values.new.bytes.items = search rules in
    one_more_item l.bytes.items c.push_values.new.bytes.items l.prints.items c.push.new.self.items c.in_ok-print.print c.args.values.now
    c.self.invariant c.in_ok-push_values.ensures.values c.in_ok-push_values.ensures.fit c.in_ok-push.ensures.items
    (ap (λ (p : Print). p.start) c.in_ok-print.ensures ∙ starts) (ap (λ (p : Print). p.end) c.in_ok-print.ensures ∙ ends) (ap (λ (p : Print). p.count) c.in_ok-print.ensures)
    ∙ ap (λ (p : Print). prints_in l.bytes.items l.prints.items ++ Printf p.format c.args.values.now ∷ []) c.in_ok-print.ensures
    ∙ ap (λ (items : List Item). items ++ Printf c.args.format c.args.values.now ∷ []) c.self.view_is
