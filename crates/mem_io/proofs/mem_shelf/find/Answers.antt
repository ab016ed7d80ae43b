use Rattle.std.proofs.Common.{◌≡◌, ℕ, suc, ◌+◌, ◌<◌, List, ◌∷◌, true, false, length, map, drop, get_or, add-one, drop-cons, sym, ap, ◌∙◌, arith}
use Rattle.std.specs.Prelude.{String, Vec, Some, string_bytes, bytes_eq}
use Rattle.std.specs.declared.alloc.Global.{Global}
use Rattle.mem_io.specs.MemShelf.{file_of, file_named}
use Rattle.mem_io.proofs.mem_shelf.find.Goals as goal

-- the search at a file
first_is : (name : List ℕ) (files : List (String Global × Vec ℕ Global)) (i : ℕ) (file : String Global × Vec ℕ Global) → i < length files → file ≡ get_or files i file → file_named name (map file_of (drop i files)) ≡ file_named name (map file_of (file ∷ drop (i + 1) files))
first_is name files i file within is =
    rw (add-one, drop-cons files i file) (ap (λ first. file_named name (map file_of (first ∷ drop (suc i) files))) (sym is))

-- the file has the name
found : (name : List ℕ) (rest : List (String Global × Vec ℕ Global)) (file : String Global × Vec ℕ Global) → bytes_eq (string_bytes file.0) name ≡ true → file_named name (map file_of (file ∷ rest)) ≡ Some file.1.items
found name rest file same = rw same

-- it has not
passed : (name : List ℕ) (rest : List (String Global × Vec ℕ Global)) (file : String Global × Vec ℕ Global) → bytes_eq (string_bytes file.0) name ≡ false → file_named name (map file_of (file ∷ rest)) ≡ file_named name (map file_of rest)
passed name rest file other = rw other

pub loop-held-preserved : goal.loop-held-preserved
loop-held-preserved c =
    let other : bytes_eq (string_bytes c.loop-held-item.result.0) c.args.name.now ≡ false = cc in
    c.loop-held.invariant
    ∙ first_is c.args.name.now c.args.files.now c.loop-held.held-index c.loop-held-item.result (omega arith) c.loop-held-item.is
    ∙ passed c.args.name.now (drop (c.loop-held.held-index + 1) c.args.files.now) c.loop-held-item.result other

pub returns-then-eq : goal.returns-then-eq
returns-then-eq c =
    let same : bytes_eq (string_bytes c.loop-held-item.result.0) c.args.name.now ≡ true = cc in
    ap Some c.as_slice.ensures.value
    ∙ sym (found c.args.name.now (drop (c.loop-held.held-index + 1) c.args.files.now) c.loop-held-item.result same)
    ∙ sym (first_is c.args.name.now c.args.files.now c.loop-held.held-index c.loop-held-item.result (omega arith) c.loop-held-item.is)
    ∙ sym c.loop-held.invariant
