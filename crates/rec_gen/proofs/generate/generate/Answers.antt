use Rattle.std.proofs.Common.{◌≡◌, refl, ap, ◌∙◌, ◌++◌, ◌∷◌, [], arith}
use Rattle.rec_gen.specs.Made.{made_tracks}
use Rattle.rec_gen.proofs.Valid.{made_valid}
use Rattle.rec_gen.proofs.generate.generate.Goals as goal

pub returns-clause-made : goal.returns-clause-made
returns-clause-made c =
    let last : c.loop-number.number ≡ 4 = omega (arith, c.loop-number.auto.number-end, c.loop-number-test.false) in
    record {
      format = c.in_ok-format.format;
      formats = c.in_ok-push.ensures.ok ∙ ap (λ l. l ++ c.in_ok-format.format ∷ []) c.new-formats.ensures;
      system = c.in_ok-format.ensures.system;
      text = c.in_ok-format.ensures.text;
      layout = c.in_ok-format.ensures.layout;
      version = refl;
      start = refl;
      end = refl;
      cpus = c.loop-number.invariant ∙ ap (made_tracks c.args.seed c.args.count) last;
    }

pub returns-clause-valid : goal.returns-clause-valid
returns-clause-valid c = made_valid c.args.seed c.args.count _ c.requires.count (returns-clause-made c)
