-- The bytes of a context, part by part, and the context that they spell.
use Rattle.std.proofs.Common.{◌≡◌, ◌≢◌, ℕ, zero, suc, ◌+◌, ◌-◌, ◌%◌, ◌^◌, ◌<◌, ◌≤◌, Bool, true, cond, List, [], ◌∷◌, ◌++◌, length, take, drop, refl, sym, ap, ◌∙◌, arith}
use Rattle.std.specs.Prelude.{replicate}
use Rattle.std.specs.Int.{w64, to_le_bytes}
use Rattle.std.specs.List.{AllByRecursion, flat_map, take_while}
use Rattle.std.proofs.lemmas.List.{drop-replicate, drop_at, take_at}
use Rattle.std.proofs.lemmas.List.Sums.{take_while-cons}
use Rattle.bt_core.specs.declared.context.Context.{Context}
use Rattle.bt_core.specs.Text.{IsShortText, is_text_byte, short_text}
use Rattle.byteorder.specs.Endian.{little_number}
use Rattle.byteorder.specs.Numbers.{little_number-reads_back}
use Rattle.event_record.specs.Contexts.{FitsNumbers, elapsed, context_bytes, context_in, context_numbers, with_number}
use borrow.Rule.Slice.PartMut.{put_mid}

-- ---- what is written

-- a name is written behind the numbers, over zeros
name_behind : (w xs name : List ℕ) (k : ℕ) → length w ≡ 64 → xs ≡ replicate 64 0 → k ≡ length name
    → put_mid 64 k (w ++ xs) name ≡ w ++ (name ++ replicate (64 - length name) 0)
name_behind w xs name k long zeros e =
    let rest : drop k (drop 64 (w ++ xs)) ≡ replicate (64 - length name) 0 =
    ap (λ l. drop k l) (drop_at w xs 64 long ∙ zeros) ∙ drop-replicate k 64 0 ∙ ap (λ n. replicate (64 - n) 0) e in
    ap (λ l. l ++ (name ++ drop k (drop 64 (w ++ xs)))) (take_at w xs 64 long) ∙ ap (λ l. w ++ (name ++ l)) rest

-- the numbers, and behind them a name that was copied over zeros
pub name_put : (c : Context) (front name copied : List ℕ) (k : ℕ) → front ≡ flat_map (to_le_bytes w64) (context_numbers c) ++ replicate 64 0
    → name ≡ c.comm → copied ≡ name → k ≡ length name → put_mid 64 k front copied ≡ context_bytes c
name_put c front name copied k numbers is same long =
    let w = flat_map (to_le_bytes w64) (context_numbers c) in
    ap (λ (l : List ℕ). put_mid 64 k l copied) numbers ∙ ap (λ (l : List ℕ). put_mid 64 k (w ++ replicate 64 0) l) same
    ∙ name_behind w (replicate 64 0) name k refl refl long
    ∙ ap (λ (s : List ℕ). w ++ (s ++ replicate (64 - length s) 0)) is

-- the numbers, put one after the other over zeros
pub numbers_put : (c : Context) (zeros a b d e f g h all : List ℕ) → zeros ≡ replicate 128 0 → a ≡ with_number 0 c.time zeros → b ≡ with_number 8 (elapsed c) a
    → d ≡ with_number 16 c.pid b → e ≡ with_number 24 c.tid d → f ≡ with_number 32 c.uid e → g ≡ with_number 40 c.gid f → h ≡ with_number 48 c.cpu g
    → all ≡ with_number 56 c.payload_len h → all ≡ flat_map (to_le_bytes w64) (context_numbers c) ++ replicate 64 0
numbers_put c zeros a b d e f g h all start put_a put_b put_d put_e put_f put_g put_h put_all =
    let front_a : a ≡ to_le_bytes w64 c.time ++ replicate 120 0 = put_a ∙ ap (with_number 0 c.time) start in
    let front_b : b ≡ flat_map (to_le_bytes w64) (c.time ∷ elapsed c ∷ []) ++ replicate 112 0 = put_b ∙ ap (with_number 8 (elapsed c)) front_a in
    let front_d : d ≡ flat_map (to_le_bytes w64) (c.time ∷ elapsed c ∷ c.pid ∷ []) ++ replicate 104 0 = put_d ∙ ap (with_number 16 c.pid) front_b in
    let front_e : e ≡ flat_map (to_le_bytes w64) (c.time ∷ elapsed c ∷ c.pid ∷ c.tid ∷ []) ++ replicate 96 0 = put_e ∙ ap (with_number 24 c.tid) front_d in
    let front_f : f ≡ flat_map (to_le_bytes w64) (c.time ∷ elapsed c ∷ c.pid ∷ c.tid ∷ c.uid ∷ []) ++ replicate 88 0 = put_f ∙ ap (with_number 32 c.uid) front_e in
    let front_g : g ≡ flat_map (to_le_bytes w64) (c.time ∷ elapsed c ∷ c.pid ∷ c.tid ∷ c.uid ∷ c.gid ∷ []) ++ replicate 80 0 = put_g ∙ ap (with_number 40 c.gid) front_f in
    let front_h : h ≡ flat_map (to_le_bytes w64) (c.time ∷ elapsed c ∷ c.pid ∷ c.tid ∷ c.uid ∷ c.gid ∷ c.cpu ∷ []) ++ replicate 72 0 = put_h ∙ ap (with_number 48 c.cpu) front_g in
    put_all ∙ ap (with_number 56 c.payload_len) front_h

-- ---- what is read again

text_byte : (b : ℕ) → b ≢ 0 → is_text_byte b ≡ true
text_byte b ne = grind arith

no_text : (m n : ℕ) → take_while is_text_byte (take m (replicate n 0)) ≡ []
no_text zero n = refl
no_text (suc m) zero = refl
no_text (suc m) (suc n) = take_while-cons is_text_byte 0 (take m (replicate n 0))

-- a string before zeros
text_front : (s : List ℕ) (m n : ℕ) → length s ≤ m → AllByRecursion (λ b. b ≢ 0) s → take_while is_text_byte (take m (s ++ replicate n 0)) ≡ s
text_front [] m n le h = no_text m n
text_front (x ∷ s) zero n le h = absurd (omega (arith, le))
text_front (x ∷ s) (suc m) n le h =
    take_while-cons is_text_byte x (take m (s ++ replicate n 0))
    ∙ ap (λ (b : Bool). cond b (x ∷ take_while is_text_byte (take m (s ++ replicate n 0))) []) (text_byte x h.0)
    ∙ ap (λ (l : List ℕ). x ∷ l) (text_front s m n (omega (arith, le)) h.1)

start_back : (time start : ℕ) → time < 2 ^ 64 → start < 2 ^ 64 → (time + (2 ^ 64 - (time + 2 ^ 64 - start) % 2 ^ 64)) % 2 ^ 64 ≡ start
start_back time start t s = omega arith

elapsed_fits : (c : Context) → elapsed c < 2 ^ 64
elapsed_fits c = omega arith

-- the bytes of a context spell it
context_back : (c : Context) → FitsNumbers c → IsShortText c.comm → context_in (context_bytes c) ≡ c
context_back c n short =
    let time : little_number 8 (context_bytes c) ≡ c.time = little_number-reads_back 8 c.time [] n.time in
    let since : little_number 8 (drop 8 (context_bytes c)) ≡ elapsed c = little_number-reads_back 8 (elapsed c) [] (elapsed_fits c) in
    let start : (little_number 8 (context_bytes c) + (2 ^ 64 - little_number 8 (drop 8 (context_bytes c)))) % 2 ^ 64 ≡ c.start =
    (λ i. (time i + (2 ^ 64 - since i)) % 2 ^ 64) ∙ start_back c.time c.start n.time n.start in
    let pid : little_number 4 (drop 16 (context_bytes c)) ≡ c.pid = little_number-reads_back 4 c.pid [] n.pid in
    let tid : little_number 4 (drop 24 (context_bytes c)) ≡ c.tid = little_number-reads_back 4 c.tid [] n.tid in
    let uid : little_number 4 (drop 32 (context_bytes c)) ≡ c.uid = little_number-reads_back 4 c.uid [] n.uid in
    let gid : little_number 4 (drop 40 (context_bytes c)) ≡ c.gid = little_number-reads_back 4 c.gid [] n.gid in
    let cpu : little_number 4 (drop 48 (context_bytes c)) ≡ c.cpu = little_number-reads_back 4 c.cpu [] n.cpu in
    let len : little_number 4 (drop 56 (context_bytes c)) ≡ c.payload_len = little_number-reads_back 4 c.payload_len [] n.payload_len in
    let comm : short_text (drop 64 (context_bytes c)) ≡ c.comm = text_front c.comm 63 (64 - length c.comm) short.short short.no_zero in
    λ i. record { time = time i; start = start i; pid = pid i; tid = tid i; uid = uid i; gid = gid i; cpu = cpu i; comm = comm i; payload_len = len i }

-- bytes that are those of a context spell it
pub told : (c : Context) (bytes : List ℕ) → bytes ≡ context_bytes c → FitsNumbers c → IsShortText c.comm → context_in bytes ≡ c
told c bytes is n short = ap context_in is ∙ context_back c n short

pub told_whole : (c : Context) (bytes : List ℕ) → bytes ≡ context_bytes c → FitsNumbers c → IsShortText c.comm → bytes ≡ context_bytes (context_in bytes)
told_whole c bytes is n short = is ∙ ap context_bytes (sym (told c bytes is n short))
