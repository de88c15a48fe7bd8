-- Lines: what is taken, and what is read back.
use Rattle.std.proofs.Common.{◌≡◌, ℕ, zero, suc, ◌+◌, ◌<◌, true, false, cond, eqb, List, [], ◌∷◌, ◌++◌, length, take, drop, Some, None, Option, MatchOption, sym, refl, ap, ◌∙◌, inl, inr, add-one, arith}
use Rattle.std.proofs.lemmas.Bool.{cases_Bool, eq-eqb, ne_eqb, eqb-true}
use Rattle.std.specs.List.{AllByRecursion, AllWithin, HoldsAt}
use Rattle.frames.specs.Streams.{Taken}
use Rattle.frames.specs.Hex.{digits, ended, hex_line, line_feed, longer, next_line, lines}
use Rattle.frames.specs.Laws.{LinesSplit, LineRoundTrip, LinesRoundTrip, LinesRejoin}
use Rattle.frames.proofs.Digits.{digit_no_line_feed}
use Rattle.frames.proofs.Streams.{Shrinks, Stays, splits_in_turn, splits_by_pieces, split-none, split-some, round_trip, rejoins}

-- a line feed ends the line, and any other character stands in it
pub line_ends : (c : ℕ) (cs : List ℕ) → eqb c line_feed ≡ true → next_line (c ∷ cs) ≡ Some ([], cs)
unfolding next_line
line_ends c cs e = ap (λ b. cond b (Some ([], cs)) (longer c (next_line cs))) e

pub line_goes_on : (c : ℕ) (cs : List ℕ) → eqb c line_feed ≡ false → next_line (c ∷ cs) ≡ longer c (next_line cs)
unfolding next_line
line_goes_on c cs e = ap (λ b. cond b (Some ([], cs)) (longer c (next_line cs))) e

-- what was taken after one more character was taken before it
pub longer-is :
    (c : ℕ) (t : Taken) (p : List ℕ × List ℕ) →
    longer c t ≡ Some p → (q : List ℕ × List ℕ) × (t ≡ Some q) × (p ≡ (c ∷ q.0, q.1))
longer-is c None p e = absurd (grind arith)
longer-is c (Some q) p e = (q, refl, grind arith)

pub shrinks : Shrinks next_line
unfolding next_line
shrinks [] p e = absurd (grind arith)
shrinks (c ∷ cs) p e =
    elim (cases_Bool (eqb c line_feed)) [
      | inl t ↦ let s : Some p ≡ Some ([], cs) = sym e ∙ line_ends c cs t in
          let l : p.1 ≡ cs = grind arith in omega (arith, ap length l)
      | inr f ↦ let q = longer-is c (next_line cs) p (sym (line_goes_on c cs f) ∙ e) in
          let ih = shrinks cs q.0 q.1 in
          let l : p.1 ≡ q.0.1 = ap (λ (z : List ℕ × List ℕ). z.1) q.2 in omega (arith, ap length l)
    ]

pub stays : Stays next_line
unfolding next_line
stays [] more p e = absurd (grind arith)
stays (c ∷ cs) more p e =
    elim (cases_Bool (eqb c line_feed)) [
      | inl t ↦ let s : Some p ≡ Some ([], cs) = sym e ∙ line_ends c cs t in
          let l : p ≡ ([], cs) = grind arith in
          line_ends c (cs ++ more) t ∙ ap (λ (z : List ℕ × List ℕ). Some (z.0, z.1 ++ more)) (sym l)
      | inr f ↦ let q = longer-is c (next_line cs) p (sym (line_goes_on c cs f) ∙ e) in
          let ih = stays cs more q.0 q.1 in
          line_goes_on c (cs ++ more) f ∙ ap (longer c) ih
          ∙ ap (λ (z : List ℕ × List ℕ). Some (z.0, z.1 ++ more)) (sym q.2)
    ]

-- all lines, where none or one can be taken from the start
pub lines_none : (bytes : List ℕ) → next_line bytes ≡ None → lines bytes ≡ ([], bytes)
lines_none bytes e = split-none next_line shrinks bytes e

pub lines-some :
    (bytes first rest : List ℕ) → next_line bytes ≡ Some (first, rest) → lines bytes ≡ (first ∷ (lines rest).0, (lines rest).1)
lines-some bytes first rest e = split-some next_line shrinks bytes first rest e

pub lines_split : LinesSplit
lines_split = (splits_in_turn next_line shrinks, splits_by_pieces next_line shrinks stays)

pub line_round_trip : LineRoundTrip
unfolding digits
line_round_trip [] rest = line_ends line_feed rest refl
line_round_trip (b ∷ bs) rest =
    line_goes_on _ _ (digit_no_line_feed _)
    ∙ ap (longer _) (line_goes_on _ _ (digit_no_line_feed _) ∙ ap (longer _) (line_round_trip bs rest))

any : (ws : List (List ℕ)) → AllByRecursion (λ w. Unit {0}) ws
any [] = tt
any (w ∷ ws) = (tt, any ws)

pub lines_round_trip : LinesRoundTrip
lines_round_trip ws tail ends =
    round_trip next_line shrinks hex_line digits (λ w. Unit {0}) (λ w rest g. line_round_trip w rest) tail ends ws (any ws)

-- the first line and the bytes behind it are the bytes
rejoins-first :
    (bytes : List ℕ) (p : List ℕ × List ℕ) → Unit {0} → next_line bytes ≡ Some p → (bytes ≡ ended p.0 ++ p.1) × Unit {0}
unfolding next_line
rejoins-first [] p good e = absurd (grind arith)
rejoins-first (c ∷ cs) p good e =
    elim (cases_Bool (eqb c line_feed)) [
      | inl t ↦ let s : Some p ≡ Some ([], cs) = sym e ∙ line_ends c cs t in
          let l : p ≡ ([], cs) = grind arith in
          (ap (λ z. z ∷ cs) (eqb-true c line_feed t) ∙ ap (λ (z : List ℕ × List ℕ). ended z.0 ++ z.1) (sym l), tt)
      | inr f ↦ let q = longer-is c (next_line cs) p (sym (line_goes_on c cs f) ∙ e) in
          let ih = rejoins-first cs q.0 tt q.1 in
          (ap (λ z. c ∷ z) ih.0 ∙ ap (λ (z : List ℕ × List ℕ). ended z.0 ++ z.1) (sym q.2), tt)
    ]

pub lines_rejoin : LinesRejoin
lines_rejoin bytes = rejoins next_line shrinks ended (λ bs. Unit {0}) rejoins-first bytes tt

-- the line goes on to the first line feed
line_found :
    (bytes : List ℕ) (i : ℕ) →
    i < length bytes →
    HoldsAt (λ c. c ≡ line_feed) bytes i →
    AllWithin (λ c. c ≡ line_feed → ⊥) bytes 0 i → next_line bytes ≡ Some (take i bytes, drop (suc i) bytes)
line_found [] i h is none = absurd (omega arith)
line_found (c ∷ cs) zero h is none = line_ends c cs (eq-eqb c line_feed (is 0))
line_found (c ∷ cs) (suc i) h is none =
    line_goes_on c cs (ne_eqb c line_feed (none 0 0 (omega arith) (omega arith)))
    ∙ ap (longer c) (line_found cs i (omega arith) is (λ k d low high. none (suc k) d (omega arith) (omega arith)))

line_missing : (bytes : List ℕ) → AllWithin (λ c. c ≡ line_feed → ⊥) bytes 0 (length bytes) → next_line bytes ≡ None
unfolding next_line
line_missing [] none = refl
line_missing (c ∷ cs) none =
    line_goes_on c cs (ne_eqb c line_feed (none 0 0 (omega arith) (omega arith)))
    ∙ ap (longer c) (line_missing cs (λ k d low high. none (suc k) d (omega arith) (omega arith)))

-- the first line, by the search for a line feed
pub line_at :
    (bytes : List ℕ) (end : Option ℕ) →
    MatchOption end (AllWithin (λ c. c ≡ line_feed → ⊥) bytes 0 (length bytes)) (λ i. (i < length bytes) × HoldsAt (λ c. c ≡ line_feed) bytes i × AllWithin (λ c. c ≡ line_feed → ⊥) bytes 0 i) →
    MatchOption end (next_line bytes ≡ None) (λ i. next_line bytes ≡ Some (take i bytes, drop (i + 1) bytes))
line_at bytes None f = line_missing bytes f
line_at bytes (Some i) f = rw add-one (line_found bytes i f.0 f.1 f.2)
