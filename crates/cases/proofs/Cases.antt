-- Every claim of the worked cases holds, by computing.
use Rattle.std.proofs.Common.{◌≡◌, ℕ, ◌-◌, ◌/◌, ◌%◌, List, [], ◌∷◌, map, replicate, refl, subst}
use Rattle.std.specs.List.{range_with_len, AllByRecursion}
use Rattle.crossbox.specs.declared.Cell.{Cell}
use Rattle.crossbox.specs.Box.{Box}
use Rattle.cases.specs.Writing.{cell, slots, box_of}
use Rattle.cases.specs.Manner.{ours, after}
use Rattle.cases.specs.Cases.{case_a, case_b, case_c, case_d, case_e, case_f, case_g, Holds, CaseHolds, CasesHold}
use Rattle.cases.proofs.Rows.{◌▸◌, computing}

-- before case F: the first 85 of 340 cells have left, the next 85 stand in the store, and the others wait in the order of their slots
abbrev waiting_f : ℕ → ℕ → List Cell
waiting_f from i = map (λ t. cell t i 3) (range_with_len from (85 - from))

abbrev box_f : Box
box_f =
    box_of (waiting_f 43 0 ∷ waiting_f 43 1 ∷ waiting_f 42 2 ∷ waiting_f 42 3 ∷ []) ([] ∷ [] ∷ [] ∷ map (λ j. cell (j / 4) (j % 4) 3) (range_with_len 85 85) ∷ [])

box_f_lem : box_f ≡ after ours 4 (slots (replicate 85 "3333"))
unfolding computing
box_f_lem = refl

case_f_lem : CaseHolds case_f
unfolding computing
case_f_lem =
    subst (λ (b : Box). AllByRecursion (Holds case_f b) case_f.claims) box_f_lem
    ((refl, refl) ▸ (refl, refl) ▸ (refl, refl) ▸ (refl, refl) ▸ refl ▸ tt)

pub cases_hold : CasesHold
unfolding computing
cases_hold =
    let a : CaseHolds case_a = refl ▸ (refl, refl) ▸ (refl, refl) ▸ refl ▸ refl ▸ tt in
    let b : CaseHolds case_b = refl ▸ refl ▸ (refl, refl) ▸ (refl, refl) ▸ tt in
    let c : CaseHolds case_c = refl ▸ refl ▸ tt in
    let d : CaseHolds case_d = refl ▸ refl ▸ refl ▸ refl ▸ refl ▸ refl ▸ refl ▸ refl ▸ tt in
    let e : CaseHolds case_e = refl ▸ tt in
    let g : CaseHolds case_g = refl ▸ tt in
    a ▸ b ▸ c ▸ d ▸ e ▸ case_f_lem ▸ g ▸ tt
