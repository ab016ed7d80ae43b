use Rattle.std.proofs.Common.{◌≡◌, ◌≢◌, ℕ, ◌<◌, List, ◌++◌, length, take, drop, Bool, false, sym, ◌∙◌, arith}
use Rattle.std.specs.Prelude.{IsTrue, ◌↔◌}
use Rattle.std.proofs.lemmas.List.{take-append-drop}
use Rattle.std.proofs.lemmas.Result.{err_from_is_err_and}
use Rattle.bt_core.specs.Ports.{Setting}
use Rattle.recordings.proofs.Fields.{IsBytes}
use Rattle.recordings.proofs.Left.{nothing_left, something_left}
use Rattle.account_format.specs.Reading.{steps_at}
use Rattle.account_format.specs.Scopes.{setting_in}
use Rattle.account_format.proofs.AccountLaws.{bad_magic}
use Rattle.account_format.proofs.ReadLaws.{is_counted, stops_at_count, Listed, as_listed, stops_at_entry, Sized, as_sized, stops_at_size, Ended, as_ended, stops_at_text, stops_behind, is_read, told_from}
use Rattle.account_format.proofs.reading.read.Goals as goal

-- fewer entries than there were to be
not_whole : (count many : ℕ) (whole : Bool) → IsTrue whole ↔ (many ≡ count) → whole ≡ false → many ≢ count
not_whole count many whole tells e = λ same. let yes : IsTrue whole = tells.1 same in absurd cc

-- two pieces that were split
halves : (size : ℕ) (rest text after : List ℕ) → text ≡ take size rest → after ≡ drop size rest → rest ≡ text ++ after
halves size rest text after front back = sym (take-append-drop size rest) ∙ (λ i. sym front i ++ sym back i)

pub returns-in_default : goal.returns-in_default
returns-in_default c = record { read = tt; fault = bad_magic (setting_in c.args.scope.now) c.args.bytes.now (sym c.in_default.ensures) }

-- ---- the number of entries

pub bad_from-requires : goal.bad_from-requires
bad_from-requires c =
    let s : Setting = setting_in c.args.scope.now in
    let fits : IsBytes c.args.bytes.now = λ i. omega (arith, c.type_inv.bytes i) in
    (stops_at_count s c.args.bytes.now c.in-Some.counted.now (is_counted s c.args.bytes.now c.in-Some.counted.now fits (sym c.in-Some.ensures)) (sym c.in_default-u64_at.ensures)).0

pub returns-in_default-u64_at-clause-fault : goal.returns-in_default-u64_at-clause-fault
returns-in_default-u64_at-clause-fault c =
    let s : Setting = setting_in c.args.scope.now in
    let fits : IsBytes c.args.bytes.now = λ i. omega (arith, c.type_inv.bytes i) in
    told_from s c.args.bytes.now c.in-Some.counted.now c.bad_from.result c.bad_from.ensures
    (stops_at_count s c.args.bytes.now c.in-Some.counted.now (is_counted s c.args.bytes.now c.in-Some.counted.now fits (sym c.in-Some.ensures)) (sym c.in_default-u64_at.ensures))

-- ---- the entries

pub returns-in_err-sized-clause-fault : goal.returns-in_err-sized-clause-fault
returns-in_err-sized-clause-fault c = let p = err_from_is_err_and c.from_residual.result c.from_residual.ensures.1 in rw (p.1, p.2) tt

pub bad_from-requires-then-not-whole : goal.bad_from-requires-then-not-whole
bad_from-requires-then-not-whole c =
    let s : Setting = setting_in c.args.scope.now in
    let b : List ℕ = c.args.bytes.now in
    let count : ℕ = c.in-Some-u64_at.count in
    let fits : IsBytes b = λ i. omega (arith, c.type_inv.bytes i) in
    let listed : Listed s b count c.in-Some-u64_at.listed.now =
    as_listed s b c.in-Some.counted.now c.in-Some-u64_at.listed.now count fits (sym c.in-Some.ensures) (sym c.in-Some-u64_at.ensures) in
    let short = not_whole count (length (steps_at s count c.in-Some-u64_at.listed.now)) c.in_ok-sized.whole c.in_ok-sized.ensures.whole c.if-not-whole.true in
    (stops_at_entry s b count c.in-Some-u64_at.listed.now c.in_ok-sized.sized.now listed c.in_ok-sized.ensures.behind short).0

pub returns-then-not-whole-clause-fault : goal.returns-then-not-whole-clause-fault
returns-then-not-whole-clause-fault c =
    let s : Setting = setting_in c.args.scope.now in
    let b : List ℕ = c.args.bytes.now in
    let count : ℕ = c.in-Some-u64_at.count in
    let fits : IsBytes b = λ i. omega (arith, c.type_inv.bytes i) in
    let listed : Listed s b count c.in-Some-u64_at.listed.now =
    as_listed s b c.in-Some.counted.now c.in-Some-u64_at.listed.now count fits (sym c.in-Some.ensures) (sym c.in-Some-u64_at.ensures) in
    let short = not_whole count (length (steps_at s count c.in-Some-u64_at.listed.now)) c.in_ok-sized.whole c.in_ok-sized.ensures.whole c.if-not-whole.true in
    told_from s b c.in_ok-sized.sized.now c.bad_from-then-not-whole.result c.bad_from-then-not-whole.ensures
    (stops_at_entry s b count c.in-Some-u64_at.listed.now c.in_ok-sized.sized.now listed c.in_ok-sized.ensures.behind short)

-- ---- the text's length

pub bad_from-requires-in_default-u64_at-2 : goal.bad_from-requires-in_default-u64_at-2
bad_from-requires-in_default-u64_at-2 c =
    let s : Setting = setting_in c.args.scope.now in
    let b : List ℕ = c.args.bytes.now in
    let fits : IsBytes b = λ i. omega (arith, c.type_inv.bytes i) in
    let sized : Sized s b c.in-Some-u64_at.count c.in-Some-u64_at.listed.now c.in_ok-sized.sized.now =
    as_sized s b c.in-Some.counted.now c.in-Some-u64_at.listed.now c.in_ok-sized.sized.now c.in-Some-u64_at.count fits (sym c.in-Some.ensures) (sym c.in-Some-u64_at.ensures)
    c.in_ok-sized.ensures.behind (c.in_ok-sized.ensures.whole.0 c.if-not-whole.false) in
    (stops_at_size s b c.in-Some-u64_at.count c.in-Some-u64_at.listed.now c.in_ok-sized.sized.now sized (sym c.in_default-u64_at-2.ensures)).0

pub returns-in_default-u64_at-2-clause-fault : goal.returns-in_default-u64_at-2-clause-fault
returns-in_default-u64_at-2-clause-fault c =
    let s : Setting = setting_in c.args.scope.now in
    let b : List ℕ = c.args.bytes.now in
    let fits : IsBytes b = λ i. omega (arith, c.type_inv.bytes i) in
    let sized : Sized s b c.in-Some-u64_at.count c.in-Some-u64_at.listed.now c.in_ok-sized.sized.now =
    as_sized s b c.in-Some.counted.now c.in-Some-u64_at.listed.now c.in_ok-sized.sized.now c.in-Some-u64_at.count fits (sym c.in-Some.ensures) (sym c.in-Some-u64_at.ensures)
    c.in_ok-sized.ensures.behind (c.in_ok-sized.ensures.whole.0 c.if-not-whole.false) in
    told_from s b c.in_ok-sized.sized.now c.bad_from-in_default-u64_at-2.result c.bad_from-in_default-u64_at-2.ensures
    (stops_at_size s b c.in-Some-u64_at.count c.in-Some-u64_at.listed.now c.in_ok-sized.sized.now sized (sym c.in_default-u64_at-2.ensures))

-- ---- the text

pub bad_from-requires-then-rest-size : goal.bad_from-requires-then-rest-size
bad_from-requires-then-rest-size c =
    let s : Setting = setting_in c.args.scope.now in
    let b : List ℕ = c.args.bytes.now in
    let fits : IsBytes b = λ i. omega (arith, c.type_inv.bytes i) in
    let ended : Ended s b c.in-Some-u64_at.count c.in-Some-u64_at.listed.now c.in-Some-u64_at-2.size c.in-Some-u64_at-2.rest.now =
    as_ended s b c.in-Some.counted.now c.in-Some-u64_at.listed.now c.in_ok-sized.sized.now c.in-Some-u64_at-2.rest.now c.in-Some-u64_at.count c.in-Some-u64_at-2.size fits
    (sym c.in-Some.ensures) (sym c.in-Some-u64_at.ensures) c.in_ok-sized.ensures.behind (c.in_ok-sized.ensures.whole.0 c.if-not-whole.false) (sym c.in-Some-u64_at-2.ensures) in
    let short : length c.in-Some-u64_at-2.rest.now < c.in-Some-u64_at-2.size = omega arith in
    (stops_at_text s b c.in-Some-u64_at.count c.in-Some-u64_at.listed.now c.in-Some-u64_at-2.size c.in-Some-u64_at-2.rest.now ended short).0

pub returns-then-rest-size-clause-fault : goal.returns-then-rest-size-clause-fault
returns-then-rest-size-clause-fault c =
    let s : Setting = setting_in c.args.scope.now in
    let b : List ℕ = c.args.bytes.now in
    let fits : IsBytes b = λ i. omega (arith, c.type_inv.bytes i) in
    let ended : Ended s b c.in-Some-u64_at.count c.in-Some-u64_at.listed.now c.in-Some-u64_at-2.size c.in-Some-u64_at-2.rest.now =
    as_ended s b c.in-Some.counted.now c.in-Some-u64_at.listed.now c.in_ok-sized.sized.now c.in-Some-u64_at-2.rest.now c.in-Some-u64_at.count c.in-Some-u64_at-2.size fits
    (sym c.in-Some.ensures) (sym c.in-Some-u64_at.ensures) c.in_ok-sized.ensures.behind (c.in_ok-sized.ensures.whole.0 c.if-not-whole.false) (sym c.in-Some-u64_at-2.ensures) in
    let short : length c.in-Some-u64_at-2.rest.now < c.in-Some-u64_at-2.size = omega arith in
    told_from s b c.in-Some-u64_at-2.rest.now c.bad_from-then-rest-size.result c.bad_from-then-rest-size.ensures
    (stops_at_text s b c.in-Some-u64_at.count c.in-Some-u64_at.listed.now c.in-Some-u64_at-2.size c.in-Some-u64_at-2.rest.now ended short)

-- ---- what is behind the text

pub bad_from-requires-then-not-is_empty : goal.bad_from-requires-then-not-is_empty
bad_from-requires-then-not-is_empty c =
    let s : Setting = setting_in c.args.scope.now in
    let b : List ℕ = c.args.bytes.now in
    let fits : IsBytes b = λ i. omega (arith, c.type_inv.bytes i) in
    let ended : Ended s b c.in-Some-u64_at.count c.in-Some-u64_at.listed.now c.in-Some-u64_at-2.size c.in-Some-u64_at-2.rest.now =
    as_ended s b c.in-Some.counted.now c.in-Some-u64_at.listed.now c.in_ok-sized.sized.now c.in-Some-u64_at-2.rest.now c.in-Some-u64_at.count c.in-Some-u64_at-2.size fits
    (sym c.in-Some.ensures) (sym c.in-Some-u64_at.ensures) c.in_ok-sized.ensures.behind (c.in_ok-sized.ensures.whole.0 c.if-not-whole.false) (sym c.in-Some-u64_at-2.ensures) in
    let parted = halves c.in-Some-u64_at-2.size c.in-Some-u64_at-2.rest.now c.split_at.result.0.now c.split_at.result.1.now c.split_at.ensures.front c.split_at.ensures.back in
    (stops_behind s b c.in-Some-u64_at.count c.in-Some-u64_at.listed.now c.in-Some-u64_at-2.size c.in-Some-u64_at-2.rest.now c.split_at.result.0.now c.split_at.result.1.now
    ended c.split_at.ensures.front_len parted (something_left c.split_at.result.1.now c.if-not-is_empty.ensures)).0

pub returns-then-not-is_empty-clause-fault : goal.returns-then-not-is_empty-clause-fault
returns-then-not-is_empty-clause-fault c =
    let s : Setting = setting_in c.args.scope.now in
    let b : List ℕ = c.args.bytes.now in
    let fits : IsBytes b = λ i. omega (arith, c.type_inv.bytes i) in
    let ended : Ended s b c.in-Some-u64_at.count c.in-Some-u64_at.listed.now c.in-Some-u64_at-2.size c.in-Some-u64_at-2.rest.now =
    as_ended s b c.in-Some.counted.now c.in-Some-u64_at.listed.now c.in_ok-sized.sized.now c.in-Some-u64_at-2.rest.now c.in-Some-u64_at.count c.in-Some-u64_at-2.size fits
    (sym c.in-Some.ensures) (sym c.in-Some-u64_at.ensures) c.in_ok-sized.ensures.behind (c.in_ok-sized.ensures.whole.0 c.if-not-whole.false) (sym c.in-Some-u64_at-2.ensures) in
    let parted = halves c.in-Some-u64_at-2.size c.in-Some-u64_at-2.rest.now c.split_at.result.0.now c.split_at.result.1.now c.split_at.ensures.front c.split_at.ensures.back in
    told_from s b c.split_at.result.1.now c.bad_from-then-not-is_empty.result c.bad_from-then-not-is_empty.ensures
    (stops_behind s b c.in-Some-u64_at.count c.in-Some-u64_at.listed.now c.in-Some-u64_at-2.size c.in-Some-u64_at-2.rest.now c.split_at.result.0.now c.split_at.result.1.now
    ended c.split_at.ensures.front_len parted (something_left c.split_at.result.1.now c.if-not-is_empty.ensures))

pub returns-clause-read : goal.returns-clause-read
returns-clause-read c =
    let s : Setting = setting_in c.args.scope.now in
    let b : List ℕ = c.args.bytes.now in
    let fits : IsBytes b = λ i. omega (arith, c.type_inv.bytes i) in
    let ended : Ended s b c.in-Some-u64_at.count c.in-Some-u64_at.listed.now c.in-Some-u64_at-2.size c.in-Some-u64_at-2.rest.now =
    as_ended s b c.in-Some.counted.now c.in-Some-u64_at.listed.now c.in_ok-sized.sized.now c.in-Some-u64_at-2.rest.now c.in-Some-u64_at.count c.in-Some-u64_at-2.size fits
    (sym c.in-Some.ensures) (sym c.in-Some-u64_at.ensures) c.in_ok-sized.ensures.behind (c.in_ok-sized.ensures.whole.0 c.if-not-whole.false) (sym c.in-Some-u64_at-2.ensures) in
    let parted = halves c.in-Some-u64_at-2.size c.in-Some-u64_at-2.rest.now c.split_at.result.0.now c.split_at.result.1.now c.split_at.ensures.front c.split_at.ensures.back in
    is_read s b c.in-Some-u64_at.count c.in-Some-u64_at.listed.now c.in-Some-u64_at-2.size c.in-Some-u64_at-2.rest.now c.split_at.result.0.now c.split_at.result.1.now
    ended c.split_at.ensures.front_len parted (nothing_left c.split_at.result.1.now c.if-not-is_empty.ensures)
