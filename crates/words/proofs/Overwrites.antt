-- Writes into a buffer: one after the other is one of both, and how long what is written is.
use Rattle.std.proofs.Common.{◌≡◌, ℕ, ◌+◌, ◌-◌, ◌<◌, ◌≤◌, ltb, List, [], ◌∷◌, ◌++◌, length, take, drop, set, sym, refl, ap, ◌∙◌, add-zero, zero-add, inl, inr, arith}
use lib.Seq.{paste}
use borrow.Rule.Slice.PartMut.{put_mid}
use Rattle.std.proofs.lemmas.List.{take-append-drop, take_all, drop_all, append-nil, take_at, drop_at, append_assoc, length-append, length-take-le, length-drop}
use Rattle.std.proofs.lemmas.List.Edits.{paste-paste, paste_all, sets-eq}
use Rattle.std.proofs.lemmas.Slice.{put_mid-paste}
use Rattle.std.proofs.lemmas.Bool.{cases_Bool, ltb-true, ltb-false}
use Rattle.words.specs.Writing.{Draft, overwrite, appended}

pub overwrite-length : (at : ℕ) (bytes out : List ℕ) →
    at + length bytes ≤ length out → length (overwrite at bytes out) ≡ length out
unfolding overwrite
overwrite-length at bytes out h =
    let a = length-append (take at out) (bytes ++ drop (at + length bytes) out) in
    let b = length-append bytes (drop (at + length bytes) out) in
    let t = length-take-le at out (omega arith) in
    let d = length-drop (at + length bytes) out in
    omega arith

overwrite_paste : (at : ℕ) (bytes out : List ℕ) → overwrite at bytes out ≡ paste out at bytes (length bytes)
unfolding overwrite
overwrite_paste at bytes out = sym (paste_all out at bytes (length bytes) refl)

-- write this, then that behind it
pub overwrite_then : (at next : ℕ) (a b out : List ℕ) →
    next ≡ at + length a → at ≤ length out → overwrite next b (overwrite at a out) ≡ overwrite at (a ++ b) out
overwrite_then at next a b out e h =
    let p = overwrite_paste at a out in
    let q = overwrite_paste (at + length a) b (paste out at a (length a)) in
    let r = overwrite_paste at (a ++ b) out in
    let s = paste-paste out at a b (length a) (length b) refl refl h in
    let l = length-append a b in
    rw (e, p, q, r, l) s

overwrite_past : (at : ℕ) (bytes out : List ℕ) → length out ≤ at → overwrite at bytes out ≡ out ++ bytes
unfolding overwrite
overwrite_past at bytes out h =
    ap (λ (xs : List ℕ). xs ++ (bytes ++ drop (at + length bytes) out)) (take_all at out h)
    ∙ ap (λ (xs : List ℕ). out ++ (bytes ++ xs)) (drop_all (at + length bytes) out (omega arith))
    ∙ ap (λ (xs : List ℕ). out ++ xs) (append-nil bytes)

-- so it is at a place behind the buffer's end too
overwrite-on : (at : ℕ) (a b out : List ℕ) → overwrite (at + length a) b (overwrite at a out) ≡ overwrite at (a ++ b) out
overwrite-on at a b out =
    elim (cases_Bool (ltb (length out) at)) [
      | inl e ↦
          let h = ltb-true (length out) at e in
          ap (λ (xs : List ℕ). overwrite (at + length a) b xs) (overwrite_past at a out (omega arith))
          ∙ overwrite_past (at + length a) b (out ++ a) (omega (arith, length-append out a))
          ∙ append_assoc out a b
          ∙ sym (overwrite_past at (a ++ b) out (omega arith))
      | inr e ↦ overwrite_then at (at + length a) a b out refl (ltb-false (length out) at e)
    ]

-- the same of three states of a buffer
pub written_then : (at next : ℕ) (a b start between last : List ℕ) →
    between ≡ overwrite at a start → last ≡ overwrite next b between → next ≡ at + length a → at ≤ length start →
    last ≡ overwrite at (a ++ b) start
written_then at next a b start between last p q e h =
    q ∙ ap (λ (z : List ℕ). overwrite next b z) p ∙ overwrite_then at next a b start e h

pub overwrite-none : (at : ℕ) (out : List ℕ) → overwrite at [] out ≡ out
unfolding overwrite
overwrite-none at out = ap (λ (k : ℕ). take at out ++ drop k out) (add-zero at) ∙ take-append-drop at out

-- what was written from the start on, and what stands behind it
pub overwrite_front : (bytes out : List ℕ) → take (length bytes) (overwrite 0 bytes out) ≡ bytes
unfolding overwrite
overwrite_front bytes out = take_at bytes (drop (0 + length bytes) out) (length bytes) refl

pub overwrite-behind : (bytes out : List ℕ) → drop (length bytes) (overwrite 0 bytes out) ≡ drop (length bytes) out
unfolding overwrite
overwrite-behind bytes out =
    drop_at bytes (drop (0 + length bytes) out) (length bytes) refl ∙ ap (λ (k : ℕ). drop k out) (zero-add (length bytes))

-- one byte, as an assignment leaves it
pub overwrite_byte : (at b : ℕ) (out : List ℕ) → at + 1 ≤ length out → set out at b ≡ overwrite at (b ∷ []) out
unfolding overwrite
overwrite_byte at b out h =
    sets-eq (b ∷ []) out at h ∙ append_assoc (take at out) (b ∷ []) (drop (at + 1) out)

-- a part, as a loan of it leaves it
pub overwrite-part : (at size : ℕ) (bytes part out : List ℕ) →
    part ≡ bytes → length bytes ≡ size → put_mid at (at + size - at) out part ≡ overwrite at bytes out
overwrite-part at size bytes part out e l =
    let k : length bytes ≡ at + size - at = omega arith in
    put_mid-paste at (at + size - at) out part bytes (length bytes) e k refl ∙ sym (overwrite_paste at bytes out)

-- an answer with this behind it, and then that
pub appended_then : (a b : List ℕ) (w : Draft) → appended b (appended a w) ≡ appended (a ++ b) w
appended_then a b w =
    let bytes = overwrite-on w.len a b w.bytes in
    let len : w.len + length a + length b ≡ w.len + length (a ++ b) = omega (arith, length-append a b) in
    λ i. record { bytes = bytes i; len = len i }

pub appended-none : (w : Draft) → appended [] w ≡ w
appended-none w =
    let bytes = overwrite-none w.len w.bytes in
    let len : w.len + 0 ≡ w.len = omega arith in
    λ i. record { bytes = bytes i; len = len i }

-- one byte more, and a part more, as the code leaves them
pub appended_byte : (b : ℕ) (w : Draft) → w.len < length w.bytes →
    record { bytes = set w.bytes w.len b; len = w.len + 1 } ≡ appended (b ∷ []) w
appended_byte b w h =
    let bytes = overwrite_byte w.len b w.bytes (omega arith) in
    λ i. record { bytes = bytes i; len = w.len + 1 }

pub appended_part : (size : ℕ) (bs part : List ℕ) (w : Draft) → part ≡ bs → length bs ≡ size →
    record { bytes = put_mid w.len (w.len + size - w.len) w.bytes part; len = w.len + size } ≡ appended bs w
appended_part size bs part w e l =
    let bytes = overwrite-part w.len size bs part w.bytes e l in
    let n = sym l in
    λ i. record { bytes = bytes i; len = w.len + n i }

overwrite_all : (bytes out : List ℕ) → length bytes ≡ length out → overwrite 0 bytes out ≡ bytes
unfolding overwrite
overwrite_all bytes out e =
    ap (λ (xs : List ℕ). bytes ++ xs) (drop_all (0 + length bytes) out (omega arith)) ∙ append-nil bytes

-- a departure in a part of 69 bytes, as the code leaves it: one byte, then 4, then 64
pub departure_written : (input : ℕ) (slot body first last part : List ℕ) →
    length part ≡ 69 → first ≡ slot → length slot ≡ 4 → last ≡ body → length body ≡ 64 →
    put_mid 5 64 (put_mid 1 4 (set part 0 input) first) last ≡ input ∷ (slot ++ body)
departure_written input slot body first last part size e four f long =
    let one = overwrite_byte 0 input part (omega arith) in
    let two : put_mid 1 4 (set part 0 input) first ≡ overwrite 0 (input ∷ slot) part =
    overwrite-part 1 4 slot first (set part 0 input) e four
    ∙ ap (λ (xs : List ℕ). overwrite 1 slot xs) one
    ∙ overwrite_then 0 1 (input ∷ []) slot part refl (omega arith) in
    overwrite-part 5 64 body last (put_mid 1 4 (set part 0 input) first) f long
    ∙ ap (λ (xs : List ℕ). overwrite 5 body xs) two
    ∙ overwrite_then 0 5 (input ∷ slot) body part (omega arith) (omega arith)
    ∙ overwrite_all (input ∷ (slot ++ body)) part (omega (arith, length-append slot body))
