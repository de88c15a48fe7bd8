-- The near misses go wrong where they are said to, by computing; and what is left behind without a reason is no stable choice.
use Rattle.std.proofs.Common.{◌≡◌, ℕ, suc, Bool, true, false, ◌&&◌, ◌||◌, eqb, ltb, List, [], ◌∷◌, Some, None, Option, refl, ap, subst, inl, inr}
use Rattle.std.proofs.lemmas.Bool.{both_ways, eqb-false, eq-eqb, lt-ltb, and_from, or_left, or_right, or_cases}
use Rattle.crossbox.specs.declared.Cell.{Cell}
use Rattle.crossbox.specs.Cells.{earlier, same, is_in, ahead}
use Rattle.crossbox.specs.Box.{Box, Reason}
use Rattle.crossbox.proofs.Cells.{same_eq}
use Rattle.cases.specs.Misses.{LeftBehind, MissesGoWrong, LeftBehindIsUnstable}
use Rattle.cases.proofs.Rows.{◌▸◌, computing}

-- a number that tells departures apart
abbrev told : Option Cell → ℕ
told None = 0
told (Some c) = suc c.slot

other : (x y : Option Cell) → eqb (told x) (told y) ≡ false → x ≡ y → ⊥
other x y h e = eqb-false (told x) (told y) h (ap (λ (z : Option Cell). told z) e)

-- whether a chosen cell is a reason for another to stay
abbrev excuses : Box → Cell → Cell → Bool
excuses b c m =
    (eqb m.input c.input && ltb (ahead m (b.waiting c.input)) (ahead c (b.waiting c.input)))
    || (eqb m.output c.output && earlier m c)

-- whether any of a list is
excused : Box → Cell → List Cell → Bool
excused b c [] = false
excused b c (m ∷ ms) = excuses b c m || excused b c ms

excused_by : (b : Box) (c m : Cell) (ms : List Cell) → is_in m ms ≡ true → excuses b c m ≡ true → excused b c ms ≡ true
unfolding excused is_in
excused_by b c m [] i e = i
excused_by b c m (d ∷ ms) i e =
    elim (or_cases (same m d) (is_in m ms) i) [
      | inl s ↦
          or_left (excuses b c d) (excused b c ms) (subst (λ (z : Cell). excuses b c z ≡ true) (same_eq m d s) e)
      | inr k ↦ or_right (excuses b c d) (excused b c ms) (excused_by b c m ms k e)
    ]

reason_excused : (b : Box) (ms : List Cell) (c : Cell) → Reason b ms c → excused b c ms ≡ true
reason_excused b ms c r =
    let m = r.0 in
    let x = eqb m.input c.input in
    let y = ltb (ahead m (b.waiting c.input)) (ahead c (b.waiting c.input)) in
    let z = eqb m.output c.output in
    excused_by b c m ms r.1
    (elim r.2 [
      | inl h ↦ or_left (x && y) (z && earlier m c) (and_from x y (eq-eqb _ _ h.0) (lt-ltb _ _ h.1))
      | inr h ↦ or_right (x && y) (z && earlier m c) (and_from z (earlier m c) (eq-eqb _ _ h.0) h.1)
    ])

left_behind : (b : Box) (ms : List Cell) (c : Cell) → is_in c (b.waiting c.input) ≡ true → is_in c ms ≡ false → excused b c ms ≡ false → LeftBehind b ms c
left_behind b ms c w s e =
    record { waits = w; stays = s; unreasoned = λ r. both_ways (excused b c ms) e (reason_excused b ms c r) }

pub misses_go_wrong : MissesGoWrong
unfolding computing excused
misses_go_wrong =
    (tt, (refl, refl, other _ _ refl) ▸ tt)
    ▸ (refl ▸ tt, (refl, refl, other _ _ refl) ▸ tt)
    ▸ (refl ▸ tt, (refl, refl, other _ _ refl) ▸ tt)
    ▸ (refl ▸ tt, (refl, left_behind _ _ _ refl refl refl) ▸ (refl, refl, other _ _ refl) ▸ tt)
    ▸ (refl ▸ refl ▸ tt, (refl ▸ refl ▸ refl ▸ tt) ▸ (refl, left_behind _ _ _ refl refl refl) ▸ tt)
    ▸ (refl ▸ tt, (refl, refl, other _ _ refl) ▸ tt)
    ▸ (refl ▸ refl ▸ refl ▸ tt, (refl, refl, other _ _ refl) ▸ tt)
    ▸ (refl ▸ refl ▸ tt, (refl, refl, other _ _ refl) ▸ tt)
    ▸ (refl ▸ refl ▸ refl ▸ refl ▸ tt, (refl ▸ refl ▸ refl ▸ refl ▸ refl ▸ tt) ▸ (refl, left_behind _ _ _ refl refl refl) ▸ tt)
    ▸ tt

pub left-behind_is_unstable : LeftBehindIsUnstable
left-behind_is_unstable b ms c l st =
    elim (st.why c l.waits) [ inl i ↦ both_ways (is_in c ms) l.stays i | inr r ↦ l.unreasoned r ]
