-- Bodies that are too large, and their probes.
use Rattle.std.proofs.Common.{◌≡◌, ℕ, zero, suc, ◌+◌, ◌<◌, List, [], ◌∷◌, length, get_or, refl, ap, ◌∙◌, arith}
use Rattle.std.specs.Prelude.{Option, Some, None, slice_get}
use Rattle.std.specs.Option.{option_map}
use Rattle.std.proofs.lemmas.Option.{get_or_from_slice_get, slice_get-get_or, slice_get_within}
use Rattle.bt_ast.specs.declared.attached.Attached.{Attached}
use Rattle.bt_ast.specs.declared.attached.BodyId.{BodyId}
use Rattle.bt_ast.specs.declared.probe.Probe.{Probe}
use Rattle.bt_ast.specs.declared.probe.Script.{Script as Tree}
use Rattle.bt_types.specs.Script.{AreTypedBodies, IsTypedScript}
use Rattle.expr_types.specs.declared.known.Known.{Known}
use Rattle.script_programs.specs.declared.error.SizeFault.{SizeFault}
use Rattle.script_programs.specs.Sizes.{first_size_fault, or_else, size_fault}
use Rattle.event_layout.specs.declared.format.Format.{Format}
use Rattle.typed_tree.specs.declared.body.TypedBody.{TypedBody}
use Rattle.typed_tree.specs.declared.script.Typed.{Typed}
use Rattle.top_jobs.specs.Doing.{HasProbe}
use Rattle.top_jobs.specs.Sizes.{IsProbePlace}

same : {A : Type 0} (a b : A) → Some a ≡ Some b → a ≡ b
same a b e = cc

-- the first that is too large is one of them
pub first_within : (start : ℕ) (bodies : List TypedBody) (n : ℕ) (fault : SizeFault) → first_size_fault start bodies ≡ Some (n, fault) → n < start + length bodies
first_within start [] n fault e = absurd (let none : ⊥ = cc in none)
first_within start (b ∷ bs) n fault e = by (size_fault b) (first_within (start + 1) bs n fault) e
  where
    by : (o : Option SizeFault) → (first_size_fault (start + 1) bs ≡ Some (n, fault) → n < start + 1 + length bs)
        → or_else (option_map (λ f. (start, f)) o) (first_size_fault (start + 1) bs) ≡ Some (n, fault) → n < start + length (b ∷ bs)
    by (Some f) later e = let here : start ≡ n = ap (λ (p : ℕ × SizeFault). p.0) (same (start, f) (n, fault) e) in omega (arith, here)
    by None later e = let low = later e in omega (arith, low)

-- the probe of each body is there
probe_of : (tree : Tree) (formats : List Format) (k : Known) (ids : List BodyId) (bodies : List TypedBody) → AreTypedBodies tree formats k ids bodies
    → (n : ℕ) → n < length bodies → (id : BodyId) × (slice_get ids n ≡ Some id) × (id.probe < length tree.probes)
probe_of tree formats k [] [] are n low = absurd (omega (arith, low))
probe_of tree formats k [] (b ∷ bs) are n low = absurd are
probe_of tree formats k (d ∷ ds) [] are n low = absurd are
probe_of tree formats k (d ∷ ds) (b ∷ bs) are zero low = (d, refl, slice_get_within tree.probes d.probe are.0.probe are.0.of_probe)
probe_of tree formats k (d ∷ ds) (b ∷ bs) are (suc n) low = probe_of tree formats k ds bs are.1 n (omega (arith, low))

pub has_probe : (tree : Tree) (formats : List Format) (attached : Attached) (typed : Typed) → IsTypedScript tree formats attached.bodies typed
    → (body : ℕ) → body < length typed.bodies → HasProbe tree attached body
has_probe tree formats attached typed of body low =
    let found = probe_of tree formats of.known attached.bodies typed.bodies of.each body low in
    record { id = found.0; of_body = found.1; within = found.2 }

-- the place of the probe of a body that is there
pub probe_at : (tree : Tree) (attached : Attached) (body : ℕ) (there : HasProbe tree attached body) (bodies : List BodyId) (probes : List Probe) (d : BodyId) (x : Probe)
    → bodies ≡ attached.bodies → probes ≡ tree.probes → IsProbePlace tree attached body (get_or probes (get_or bodies body d).probe x).place
probe_at tree attached body there bodies probes d x is are =
    let id : get_or bodies body d ≡ there.id = ap (λ (l : List BodyId). get_or l body d) is ∙ get_or_from_slice_get attached.bodies body there.id d there.of_body in
    record {
      id = there.id;
      of_body = there.of_body;
      probe = get_or tree.probes there.id.probe x;
      of_probe = slice_get-get_or tree.probes there.id.probe x there.within;
      at = λ i. (get_or (are i) (id i).probe x).place;
    }
