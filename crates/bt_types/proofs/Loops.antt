-- Loops and arms: a word, a condition and a block.
use Rattle.std.proofs.Common.{◌≡◌, ◌≤◌, ◌++◌, ℕ, ℤ, not, unsigned_abs, List, [], ◌∷◌, None, ap}
use Rattle.bt_core.specs.declared.place.Place.{Place}
use Rattle.expr_types.specs.declared.fault.Rule.TheVariants.{WrongType}
use Rattle.expr_types.specs.declared.fault.TypeError.{TypeError}
use Rattle.expr_types.specs.declared.known.Known.{Known}
use Rattle.expr_types.specs.Mentions.{NeedsTurns, UnrollWord, Word}
use Rattle.expr_types.specs.Judge.{judged, SaysFault, IsBreach}
use Rattle.expr_types.specs.Rules.{are_turns, breaks}
use Rattle.typed_tree.specs.Parts.{TreePart, Unrolled}
use Rattle.expr_types.specs.Typing.{Fits, titles_of, word_of}
use Rattle.bt_types.specs.Told.{Told, next, says, asks, unroll_told}
use Rattle.bt_types.specs.Done.{Done}
use Rattle.bt_types.proofs.Turns.{done_next, done_says, done_then, refused_front, refused_next, fault_here}

pub worded_done : (w : Word) (p : TreePart) (s t : Told) (k0 k1 k2 : Known) (ps qs : List TreePart) → Fits k0 p → word_of (titles_of k0) p ≡ w → Done s k0 k1 ps → Done t k1 k2 qs → Done (next (says w) (next s t)) k0 k2 (p ∷ (ps ++ qs))
worded_done w p s t k0 k1 k2 ps qs f e c d = done_next (says w) (next s t) k0 k0 k2 (p ∷ []) (ps ++ qs) (done_says w p k0 f e) (done_next s t k0 k1 k2 ps qs c d)

pub worded_first : (w : Word) (p : TreePart) (s t : Told) (k0 : Known) (e : TypeError) → Fits k0 p → word_of (titles_of k0) p ≡ w → SaysFault (judged s.points k0) e → SaysFault (judged (next (says w) (next s t)).points k0) e
worded_first w p s t k0 e f i h = refused_next (says w) (next s t) k0 k0 (p ∷ []) e (done_says w p k0 f i) (refused_front s t k0 e h)

pub worded_second : (w : Word) (p : TreePart) (s t : Told) (k0 k1 : Known) (ps : List TreePart) (e : TypeError) → Fits k0 p → word_of (titles_of k0) p ≡ w → Done s k0 k1 ps → SaysFault (judged t.points k1) e → SaysFault (judged (next (says w) (next s t)).points k0) e
worded_second w p s t k0 k1 ps e f i c h = refused_next (says w) (next s t) k0 k0 (p ∷ []) e (done_says w p k0 f i) (refused_next s t k0 k1 ps e c h)

-- `unroll`: the block, and then the number of turns
pub unroll_done : (place : Place) (turns : ℤ) (block : Told) (k0 k1 : Known) (ps : List TreePart) (n : ℕ) → Done block k0 k1 ps → breaks (not (are_turns turns)) WrongType ≡ None → n ≡ unsigned_abs turns → 1 ≤ n → n ≤ 100
    → Done (unroll_told place turns block) k0 k1 (Unrolled n place.line ∷ ps)
unroll_done place turns block k0 k1 ps n d h same low high =
    done_next (says (UnrollWord (unsigned_abs turns) place.line)) (next block (asks place (NeedsTurns turns))) k0 k0 k1 (Unrolled n place.line ∷ []) ps
    (done_says (UnrollWord (unsigned_abs turns) place.line) (Unrolled n place.line) k0 (low, high) (ap (λ (m : ℕ). UnrollWord m place.line) same)) (done_then block k0 k1 ps place (NeedsTurns turns) tt d h)

pub unroll_first : (place : Place) (turns : ℤ) (block : Told) (k0 : Known) (e : TypeError) → SaysFault (judged block.points k0) e → SaysFault (judged (unroll_told place turns block).points k0) e
unroll_first place turns block k0 e h = refused_front block (asks place (NeedsTurns turns)) k0 e h

pub unroll_refused : (place : Place) (turns : ℤ) (block : Told) (k0 k1 : Known) (ps : List TreePart) (e : TypeError) → Done block k0 k1 ps → IsBreach (breaks (not (are_turns turns)) WrongType) place e
    → SaysFault (judged (unroll_told place turns block).points k0) e
unroll_refused place turns block k0 k1 ps e d h = refused_next block (asks place (NeedsTurns turns)) k0 k1 ps e d (fault_here place (NeedsTurns turns) [] k1 e h)
