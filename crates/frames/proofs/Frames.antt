-- Frames: what is taken, and what is read back.
use Rattle.std.proofs.Common.{◌≡◌, ℕ, ◌+◌, ◌*◌, ◌/◌, ◌%◌, ◌<◌, ◌≤◌, cond, leb, List, [], ◌∷◌, ◌++◌, length, take, drop, Some, None, sym, ap, ◌∙◌, subst, inl, inr, arith}
use Rattle.std.proofs.ByRecursion.{All-drop}
use Rattle.std.proofs.lemmas.List.{length-append, length-drop, take-append-le, drop-append-le, take_at, drop_at, map-id, length-take-le, take-append-drop}
use Rattle.std.proofs.lemmas.Bool.{le-leb, lt-leb, leb-true, cases_Bool}
use Rattle.std.specs.List.{AllByRecursion}
use Rattle.frames.specs.Frames.{taken, framed, next_frame, frame_limit, byte_values, frames}
use Rattle.frames.specs.Laws.{FramesSplit, FrameRoundTrip, FramesRoundTrip, FramesRejoin}
use Rattle.frames.proofs.Streams.{Shrinks, Stays, splits_in_turn, splits_by_pieces, split-none, split-some, round_trip, rejoins}

pub taken-some : (n : ℕ) (bytes : List ℕ) → n ≤ length bytes → taken n bytes ≡ Some (take n bytes, drop n bytes)
taken-some n bytes h = ap (λ b. cond b (Some (take n bytes, drop n bytes)) None) (le-leb n (length bytes) h)

pub taken_none : (n : ℕ) (bytes : List ℕ) → length bytes < n → taken n bytes ≡ None
taken_none n bytes h = ap (λ b. cond b (Some (take n bytes, drop n bytes)) None) (lt-leb n (length bytes) h)

-- what was taken is the first bytes, of which there are enough
pub taken_is :
    (n : ℕ) (bytes : List ℕ) (p : List ℕ × List ℕ) →
    taken n bytes ≡ Some p → (n ≤ length bytes) × (p.0 ≡ take n bytes) × (p.1 ≡ drop n bytes)
taken_is n bytes p e =
    elim (cases_Bool (leb n (length bytes))) [
      | inl t ↦ let h = leb-true n (length bytes) t in let s = taken-some n bytes h in
          (h, grind arith, grind arith)
      | inr f ↦ let s : taken n bytes ≡ None = ap (λ b. cond b (Some (take n bytes, drop n bytes)) None) f in absurd (grind arith)
    ]

pub shrinks : Shrinks next_frame
shrinks [] p e = absurd (grind arith)
shrinks (high ∷ []) p e = absurd (grind arith)
shrinks (high ∷ low ∷ bytes) p e =
    let t = taken_is (high * byte_values + low) bytes p e in
    let l = ap length t.2 ∙ length-drop (high * byte_values + low) bytes in
    omega arith

pub stays : Stays next_frame
stays [] more p e = absurd (grind arith)
stays (high ∷ []) more p e = absurd (grind arith)
stays (high ∷ low ∷ bytes) more p e =
    let n : ℕ = high * byte_values + low in
    let t = taken_is n bytes p e in
    taken-some n (bytes ++ more) (omega (arith, length-append bytes more, t.0))
    ∙ ap (λ x. Some (x, drop n (bytes ++ more))) (take-append-le n bytes more t.0 ∙ sym t.1)
    ∙ ap (λ x. Some (p.0, x)) (drop-append-le n bytes more t.0 ∙ ap (λ z. z ++ more) (sym t.2))

-- all words, where none or one can be taken from the start
pub frames-none : (bytes : List ℕ) → next_frame bytes ≡ None → frames bytes ≡ ([], bytes)
frames-none bytes e = split-none next_frame shrinks bytes e

pub frames-some :
    (bytes first rest : List ℕ) → next_frame bytes ≡ Some (first, rest) → frames bytes ≡ (first ∷ (frames rest).0, (frames rest).1)
frames-some bytes first rest e = split-some next_frame shrinks bytes first rest e

pub frames-split : FramesSplit
frames-split = (splits_in_turn next_frame shrinks, splits_by_pieces next_frame shrinks stays)

pub frame_round_trip : FrameRoundTrip
frame_round_trip w rest h =
    let n : ℕ = length w / byte_values * byte_values + length w % byte_values in
    let same : length w ≡ n = omega arith in
    taken-some n (w ++ rest) (omega (arith, length-append w rest))
    ∙ ap (λ x. Some (x, drop n (w ++ rest))) (take_at w rest n same)
    ∙ ap (λ x. Some (w, x)) (drop_at w rest n same)

pub frames_round_trip : FramesRoundTrip
frames_round_trip ws tail good ends =
    round_trip next_frame shrinks framed (λ w. w) (λ w. length w < frame_limit) frame_round_trip tail ends ws good
    ∙ ap (λ x. (x, tail)) (map-id ws)

-- the first frame and the bytes behind it are the bytes
rejoins-first :
    (bytes : List ℕ) (p : List ℕ × List ℕ) →
    AllByRecursion (λ b. b < byte_values) bytes →
    next_frame bytes ≡ Some p → (bytes ≡ framed p.0 ++ p.1) × AllByRecursion (λ b. b < byte_values) p.1
rejoins-first [] p good e = absurd (grind arith)
rejoins-first (high ∷ []) p good e = absurd (grind arith)
rejoins-first (high ∷ low ∷ bytes) p good e =
    let n : ℕ = high * byte_values + low in
    let t = taken_is n bytes p e in
    let size : length p.0 ≡ n = ap length t.1 ∙ length-take-le n bytes t.0 in
    let high_is : high ≡ length p.0 / byte_values = omega (arith, good.1.0) in
    let low-is : low ≡ length p.0 % byte_values = omega (arith, good.1.0) in
    let parts : bytes ≡ p.0 ++ p.1 =
    sym (take-append-drop n bytes) ∙ ap (λ z. z ++ drop n bytes) (sym t.1) ∙ ap (λ z. p.0 ++ z) (sym t.2) in (
      ap (λ z. high ∷ low ∷ z) parts ∙ ap (λ z. z ∷ low ∷ (p.0 ++ p.1)) high_is
          ∙ ap (λ z. length p.0 / byte_values ∷ z ∷ (p.0 ++ p.1)) low-is,
      subst (AllByRecursion (λ b. b < byte_values)) (sym t.2) (All-drop (λ b. b < byte_values) n bytes good.1.1),
    )

pub frames_rejoin : FramesRejoin
frames_rejoin = rejoins next_frame shrinks framed (AllByRecursion (λ b. b < byte_values)) rejoins-first
