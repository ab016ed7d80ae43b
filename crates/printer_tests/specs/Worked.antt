-- Replies and rows that were worked out by hand.
use Rattle.std.specs.Prelude.{pos, negsuc, List, [], ◌∷◌, ◌++◌, codes, replicate, Some}
use Rattle.bt_core.specs.declared.agg.Agg.{Agg}
use Rattle.bt_core.specs.declared.agg.Buckets.TheVariants as held
use Rattle.bt_core.specs.declared.item.Cell.{Cell}
use Rattle.bt_core.specs.declared.item.Cell.TheVariants as cells
use Rattle.bt_core.specs.declared.map.AggKind.TheVariants.{Hist}
use Rattle.bt_core.specs.declared.map.MapDecl.{MapDecl}
use Rattle.bt_core.specs.declared.map.MapKind.TheVariants.{Aggs}
use Rattle.bt_core.specs.declared.step.Reply.{Reply}
use Rattle.bt_core.specs.declared.step.Reply.TheVariants.{Pairs}
use Rattle.bt_core.specs.declared.value.Value.{Value}
use Rattle.bt_core.specs.declared.value.Value.TheVariants.{Int, Str}

-- ---- values under keys of one and of two parts

abbrev pub b : Value
b = Str (codes "b")

abbrev pub first_values : Reply
first_values = Pairs ((b ∷ [], Int (pos 20)) ∷ (Int (pos 5) ∷ [], Int (pos 50)) ∷ [])

abbrev pub later_values : Reply
later_values = Pairs (
    (b ∷ Int (pos 1) ∷ [], Int (pos 7)) ∷
    (Int (negsuc 0) ∷ [], Int (pos 11)) ∷
    (b ∷ [], Int (pos 22)) ∷
    (Int (pos 5) ∷ [], Int (pos 55)) ∷ [])

abbrev pub value_replies : List Reply
value_replies = first_values ∷ Pairs [] ∷ later_values ∷ []

-- the keys in their order, under each the first value
abbrev pub kept_values : List (List Value × Cell)
kept_values =
    (Int (negsuc 0) ∷ [], cells.Value (Int (pos 11))) ∷
    (Int (pos 5) ∷ [], cells.Value (Int (pos 50))) ∷
    (b ∷ [], cells.Value (Int (pos 20))) ∷
    (b ∷ Int (pos 1) ∷ [], cells.Value (Int (pos 7))) ∷ []

-- ---- a histogram of 2^27 ones

abbrev pub histogram_decl : MapDecl
histogram_decl = record { name = codes "@"; kind = Aggs Hist; key_shape = [] }

abbrev pub many_ones : Agg
many_ones = record {
  kind = Hist;
  count = pos 134217728;
  sum = pos 134217728;
  least = Some (pos 1);
  greatest = Some (pos 1);
  buckets = held.Hist (0 ∷ 0 ∷ 134217728 ∷ replicate 62 0);
}

abbrev pub many_ones_rows : List (List Value × Cell)
many_ones_rows = ([], cells.Agg many_ones) ∷ []
