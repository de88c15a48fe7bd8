-- An answer's bytes: how long they are, one more at the end, and that they tell what was answered.
use Rattle.std.proofs.Common.{◌≡◌, ℕ, suc, ◌+◌, ◌*◌, ◌/◌, ◌%◌, ◌^◌, ◌<◌, ◌≤◌, Bool, true, false, cond, eqb, List, [], ◌∷◌, ◌++◌, length, get_or, take, drop, Some, None, Option, sym, refl, ap, ◌∙◌, zero-add, arith}
use native.Mathlib.Nat.{div-div-eq-div-mul}
use mir.Val.{bool_byte}
use Rattle.std.proofs.lemmas.List.{append_assoc, append-nil, length-append, take_at, drop_at, take_more}
use Rattle.std.proofs.lemmas.Bool.{ne_eqb, le-ltb}
use Rattle.crossbox.specs.declared.Cell.{Cell}
use Rattle.words.proofs.Overwrites.{appended_then, appended-none, overwrite_front, overwrite-behind}
use Rattle.words.specs.Numbers.{answer_kind}
use Rattle.words.specs.Writing.{Draft, appended, cleared}
use Rattle.words.specs.Answer.{Departure, Written, leaving, leaving_all, flag_bytes, answer_bytes, read_departure, departure_before, departure_then, read_departures, flag_before, read_flags, beside, flags_behind, read_answer, Leaves, AllLeave, AnswerIsRead}

-- one more departure behind the others
pub leaving_push : (ds : List Departure) (d : Departure) → leaving_all (ds ++ (d ∷ [])) ≡ leaving_all ds ++ leaving d
unfolding leaving_all
leaving_push [] d = append-nil (leaving d)
leaving_push (e ∷ ds) d =
    ap (λ (xs : List ℕ). leaving e ++ xs) (leaving_push ds d) ∙ sym (append_assoc (leaving e) (leaving_all ds) (leaving d))

-- one more flag behind the others
pub flags_push : (flags : List Bool) (away : Bool) → flag_bytes (flags ++ (away ∷ [])) ≡ flag_bytes flags ++ (cond away 1 0 ∷ [])
unfolding flag_bytes
flags_push [] away = refl
flags_push (f ∷ flags) away = ap (λ (xs : List ℕ). cond f 1 0 ∷ xs) (flags_push flags away)

pub flags_length : (flags : List Bool) → length (flag_bytes flags) ≡ length flags
unfolding flag_bytes
flags_length [] = refl
flags_length (f ∷ flags) = ap suc (flags_length flags)

-- a departure takes at most 69 bytes
pub leaving-length : (o : ℕ) (d : Departure) → Leaves o d → length (leaving d) ≤ 69
leaving-length o None h = omega arith
leaving-length o (Some d) h = omega (arith, h.3)

pub leaving_all-length : (o : ℕ) (ds : List Departure) → AllLeave o ds → length (leaving_all ds) ≤ 69 * length ds
unfolding leaving_all
leaving_all-length o [] h = omega arith
leaving_all-length o (d ∷ ds) h =
    let one = leaving-length o d h.0 in
    let more = leaving_all-length (suc o) ds h.1 in
    let both = length-append (leaving d) (leaving_all ds) in
    omega arith

-- an answer in the making: its kind, then what leaves, then the flags
pub answer_written : (w start : Draft) (ds : List Departure) (flags : List Bool) →
    w ≡ appended (flag_bytes flags) (appended (leaving_all ds) (appended (answer_kind ∷ []) (cleared start))) →
    Written start.bytes w.bytes w.len ds flags
answer_written w start ds flags e =
    let all : w ≡ appended (answer_bytes ds flags) (cleared start) =
    e ∙ (ap (λ (z : Draft). appended (flag_bytes flags) z) (appended_then (answer_kind ∷ []) (leaving_all ds) (cleared start))
    ∙ appended_then (answer_kind ∷ leaving_all ds) (flag_bytes flags) (cleared start)) in
    record { bytes = ap (λ (z : Draft). z.bytes) all; next = ap (λ (z : Draft). z.len) all ∙ zero-add (length (answer_bytes ds flags)) }

flag_byte : (b : Bool) → bool_byte b ≡ cond b 1 0
flag_byte true = refl
flag_byte false = refl

-- one departure more, and one flag more, are written
pub departure_more : (w now last : Draft) (ds : List Departure) (d : Departure) →
    now ≡ appended (leaving_all ds) w → last ≡ appended (leaving d) now → last ≡ appended (leaving_all (ds ++ (d ∷ []))) w
departure_more w now last ds d e f =
    f ∙ ap (λ (z : Draft). appended (leaving d) z) e ∙ appended_then (leaving_all ds) (leaving d) w
    ∙ ap (λ (bs : List ℕ). appended bs w) (sym (leaving_push ds d))

pub flag_more : (w now last : Draft) (flags : List Bool) (k b : ℕ) → k < length flags → b ≡ bool_byte (get_or flags k false) →
    now ≡ appended (flag_bytes (take k flags)) w → last ≡ appended (b ∷ []) now → last ≡ appended (flag_bytes (take (k + 1) flags)) w
flag_more w now last flags k b h g e f =
    f ∙ ap (λ (z : Draft). appended (b ∷ []) z) e ∙ appended_then (flag_bytes (take k flags)) (b ∷ []) w
    ∙ ap (λ (x : ℕ). appended (flag_bytes (take k flags) ++ (x ∷ [])) w) (g ∙ flag_byte (get_or flags k false))
    ∙ ap (λ (bs : List ℕ). appended bs w) (sym (flags_push (take k flags) (get_or flags k false)))
    ∙ ap (λ (fs : List Bool). appended (flag_bytes fs) w) (sym (take_more flags k false h))

pub no_flags : (w : Draft) → w ≡ appended (flag_bytes []) w
unfolding flag_bytes
no_flags w = sym (appended-none w)

-- flags in a part of as many bytes, as the code leaves them
pub flags_written : (bytes : List ℕ) (flags : List Bool) → length bytes ≡ length flags →
    ((k : ℕ) → k < length flags → get_or bytes k 0 ≡ bool_byte (get_or flags k false)) → bytes ≡ flag_bytes flags
unfolding flag_bytes
flags_written [] [] e h = refl
flags_written [] (f ∷ flags) e h = absurd (omega arith)
flags_written (b ∷ bytes) [] e h = absurd (omega arith)
flags_written (b ∷ bytes) (f ∷ flags) e h =
    let first : b ≡ cond f 1 0 = h 0 (omega arith) ∙ flag_byte f in
    let others = flags_written bytes flags (omega arith) (λ k l. h (suc k) (omega arith)) in
    λ i. first i ∷ others i

pub no_departures : (w : Draft) → w ≡ appended (leaving_all []) w
unfolding leaving_all
no_departures w = sym (appended-none w)

-- what a buffer then begins with, and what stands behind it
pub answer_front : (start out : List ℕ) (at : ℕ) (ds : List Departure) (flags : List Bool) →
    Written start out at ds flags → take at out ≡ answer_bytes ds flags
answer_front start out at ds flags w =
    ap (λ (k : ℕ). take k out) w.next
    ∙ ap (λ (xs : List ℕ). take (length (answer_bytes ds flags)) xs) w.bytes
    ∙ overwrite_front (answer_bytes ds flags) start

pub answer-behind : (start out : List ℕ) (at : ℕ) (ds : List Departure) (flags : List Bool) →
    Written start out at ds flags → drop at out ≡ drop at start
answer-behind start out at ds flags w =
    ap (λ (k : ℕ). drop k out) w.next
    ∙ ap (λ (xs : List ℕ). drop (length (answer_bytes ds flags)) xs) w.bytes
    ∙ overwrite-behind (answer_bytes ds flags) start
    ∙ ap (λ (k : ℕ). drop k start) (sym w.next)

-- an answer's length: one more with each flag, at most 69 more with each departure
pub answer-length : (ds : List Departure) (flags : List Bool) →
    length (answer_bytes ds flags) ≡ 1 + length (leaving_all ds) + length flags
answer-length ds flags = omega (arith, length-append (leaving_all ds) (flag_bytes flags), flags_length flags)

pub answer_room : (ds : List Departure) (flags : List Bool) → AllLeave 0 ds →
    length (answer_bytes ds flags) ≤ 1 + 69 * length ds + length flags
answer_room ds flags h = omega (arith, answer-length ds flags, leaving_all-length 0 ds h)

-- digits of base 256, put together again
digits : (x a b c : ℕ) (p q r s : ℕ) → p ≡ c % 256 → q ≡ b % 256 → r ≡ a % 256 → s ≡ x % 256 →
    a ≡ x / 256 → b ≡ a / 256 → c ≡ b / 256 → c < 256 →
    p * 16777216 + q * 65536 + r * 256 + s ≡ x
digits x a b c p q r s hp hq hr hs ha hb hc small =
    let one : a * 256 + s ≡ x = omega arith in
    let two : b * 256 + r ≡ a = omega arith in
    let three : c * 256 + q ≡ b = omega arith in
    let four : p ≡ c = omega arith in
    omega arith

four_bytes : (x : ℕ) → x < 2 ^ 32 →
    x / 16777216 % 256 * 16777216 + x / 65536 % 256 * 65536 + x / 256 % 256 * 256 + x % 256 ≡ x
four_bytes x h =
    digits x (x / 256) (x / 65536) (x / 16777216) (x / 16777216 % 256) (x / 65536 % 256) (x / 256 % 256) (x % 256)
    refl refl refl refl refl (sym (div-div-eq-div-mul x 256 256)) (sym (div-div-eq-div-mul x 65536 256)) (omega arith)

cell_read : (o : ℕ) (c : Cell) (body rest : List ℕ) → Leaves o (Some (c, body)) →
    read_departure o (leaving (Some (c, body)) ++ rest) ≡ Some (Some (c, body), rest)
unfolding read_departure
cell_read o c body rest h =
    let t = ne_eqb c.input 255 (omega (arith, h.0)) in
    let long = length-append body rest in
    let u = le-ltb (suc (suc (suc (suc (length (body ++ rest)))))) 68 (omega (arith, h.3)) in
    let tk = take_at body rest 64 h.3 in
    let dr = drop_at body rest 64 h.3 in
    let slot = four_bytes c.slot h.1 in
    let same : record { slot = c.slot; input = c.input; output = o } ≡ c =
    ap (λ (z : ℕ). record { slot = c.slot; input = c.input; output = z }) (sym h.2) in
    rw (t, u, tk, dr, slot)
    (ap (λ (x : Cell). Some (Some (x, body), rest)) same)

departure_read : (o : ℕ) (d : Departure) (rest : List ℕ) → Leaves o d → read_departure o (leaving d ++ rest) ≡ Some (d, rest)
unfolding read_departure
departure_read o None rest h = refl
departure_read o (Some d) rest h = cell_read o d.0 d.1 rest h

departures_read : (o : ℕ) (ds : List Departure) (rest : List ℕ) → AllLeave o ds →
    read_departures o (length ds) (leaving_all ds ++ rest) ≡ Some (ds, rest)
unfolding read_departures leaving_all
departures_read o [] rest h = refl
departures_read o (d ∷ ds) rest h =
    ap (λ (xs : List ℕ). departure_then (read_departure o xs) (read_departures (suc o) (length ds))) (append_assoc (leaving d) (leaving_all ds) rest)
    ∙ ap (λ (x : Option (Departure × List ℕ)). departure_then x (read_departures (suc o) (length ds))) (departure_read o d (leaving_all ds ++ rest) h.0)
    ∙ ap (λ (x : Option (List Departure × List ℕ)). departure_before d x) (departures_read (suc o) ds rest h.1)

flag_read : (away : Bool) → eqb (cond away 1 0) 1 ≡ away
flag_read true = refl
flag_read false = refl

flags_read : (flags : List Bool) → read_flags (length flags) (flag_bytes flags) ≡ Some flags
unfolding read_flags flag_bytes
flags_read [] = refl
flags_read (f ∷ flags) =
    ap (λ (x : Option (List Bool)). flag_before (eqb (cond f 1 0) 1) x) (flags_read flags)
    ∙ ap (λ (b : Bool). Some (b ∷ flags)) (flag_read f)

answer_read : (ds : List Departure) (flags : List Bool) → AllLeave 0 ds →
    (n : ℕ) → length ds ≡ n → length flags ≡ n → read_answer n (answer_bytes ds flags) ≡ Some (ds, flags)
answer_read ds flags h n e f =
    ap (λ (k : ℕ). flags_behind n (read_departures 0 k (leaving_all ds ++ flag_bytes flags))) (sym e)
    ∙ ap (λ (x : Option (List Departure × List ℕ)). flags_behind n x) (departures_read 0 ds (flag_bytes flags) h)
    ∙ ap (λ (k : ℕ). beside ds (read_flags k (flag_bytes flags))) (sym f)
    ∙ ap (λ (x : Option (List Bool)). beside ds x) (flags_read flags)

pub answer_is_read : AnswerIsRead
answer_is_read n ds flags h e f = answer_read ds flags h n e f
