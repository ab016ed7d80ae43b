use Rattle.std.proofs.Common.{rules, ◌≡◌, ◌++◌, ℤ, w64, sym, subst}
use Rattle.std.specs.Int.{cast_signed, cast_unsigned, to_le_bytes}
use Rattle.std.specs.Prelude.{OnOk}
use Rattle.bt_core.specs.declared.step.ObjectId.TheVariants.{Cpu}
use Rattle.bt_core.specs.declared.step.Op.{Op}
use Rattle.bt_core.specs.KeyBytes.{key_bytes}
use Rattle.account_format.specs.Entries.{of_map, call_bytes}
use Rattle.account_format.proofs.PushLaws.{pushed_behind}
use Rattle.account_format.proofs.writing.push_table.Goals as goal

pub returns-in_ok-push_keyed-in-Add : goal.returns-in_ok-push_keyed-in-Add
returns-in_ok-push_keyed-in-Add c =
    let same : cast_signed w64 (cast_unsigned w64 c.in-Add.number) ≡ c.in-Add.number = search rules in
    let pushed : OnOk c.push_i64.result (c.push_i64.new.bytes.items ≡ c.push_keyed.new.bytes.items ++ to_le_bytes w64 (cast_unsigned w64 c.in-Add.number)) =
    subst (λ (n : ℤ). OnOk c.push_i64.result (c.push_i64.new.bytes.items ≡ c.push_keyed.new.bytes.items ++ to_le_bytes w64 (cast_unsigned w64 n))) same c.push_i64.ensures in
    subst (λ (op : Op). OnOk c.push_i64.result (c.push_i64.new.bytes.items ≡ c.args.bytes.now.items ++ call_bytes (Cpu c.args.table) op)) (sym c.in-Add.is)
    (pushed_behind c.push_i64.result c.args.bytes.now.items (of_map 7 c.in-Add.map) (key_bytes c.in-Add.key) (to_le_bytes w64 (cast_unsigned w64 c.in-Add.number))
    c.push_keyed.new.bytes.items c.push_i64.new.bytes.items c.in_ok-push_keyed-in-Add.ensures pushed)
