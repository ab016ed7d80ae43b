use Rattle.std.proofs.Common.{◌≡◌, ◌||◌, ◌++◌, drop}
use Rattle.std.specs.List.{list_any}
use Rattle.bt_attach.specs.Marks.{is_named, either_each}
use Rattle.bt_attach.proofs.marks.mark.Given as goal

-- what there is, with what is to come, is the whole
abbrev pub invariant-loop-k : goal.invariant-loop-k
invariant-loop-k l = record {
  marks : l.next ++ either_each (is_named l.system l.name) (drop l.k l.marks) (drop l.k l.formats) ≡ either_each (is_named l.system l.name) l.marks l.formats;
  found : (l.found || list_any (is_named l.system l.name) (drop l.k l.formats)) ≡ list_any (is_named l.system l.name) l.formats;
}
