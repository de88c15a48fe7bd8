-- What each step of a slot does to the slack.
use Rattle.std.proofs.Common.{◌≡◌, ℕ, ◌≤◌, Bool, true, false, cond, ◌&&◌, eqb, ltb, List, length, sym, ap, ◌∙◌, subst, inl, inr, arith}
use Rattle.std.proofs.lemmas.Bool.{eq-eqb, or_cases, both_ways, and_from}
use Rattle.crossbox.specs.declared.Arrival.{Arrival}
use Rattle.crossbox.specs.declared.Arrival.TheVariants.{Nothing, For}
use Rattle.crossbox.specs.declared.Cell.{Cell}
use Rattle.crossbox.specs.Cells.{Arrivals, same, is_in, ahead, count_earlier}
use Rattle.crossbox.specs.Box.{Box, put_at, taken, arriving, room_for, without_all, for_output}
use Rattle.crossbox.specs.Shape.{StoredBefore}
use Rattle.crossbox.specs.Slack.{Slack, ArriveSlack, TransferSlack, DepartSlack}
use Rattle.crossbox.proofs.Cells.{same_eq, earlier_slot}
use Rattle.crossbox.proofs.Lists.{is_in-put_at, is_in-for_output, is_in-without_all, ahead-put_at_self, ahead-put_at, ahead-without_all, ahead-without_all-less, count_all}
use Rattle.crossbox.proofs.Stores.{count-slip_all, count-slip_all-more, depart_drops, count-rest}

-- a new cell has as many earlier cells in its store as stand there, and no more cells ahead
taken-new : (t i o : ℕ) (b : Box) → StoredBefore t b → (c : Cell) → c ≡ record { slot = t; input = i; output = o } → ahead c (put_at (length (b.store o)) c (b.waiting i)) ≤ count_earlier c (b.store o)
taken-new t i o b s c e =
    let a = ahead-put_at_self (length (b.store o)) c (b.waiting i) in
    let n = count_all c (b.store o) (λ d h. earlier_slot d c (let k = s o d h in let f = ap (λ (z : Cell). z.slot) e in omega arith)) in
    omega arith

taken_slack : (t : ℕ) (b : Box) (c : Cell) (x : Arrival) → StoredBefore t b → Slack 1 b → is_in c (taken t c.input x b) ≡ true → ahead c (taken t c.input x b) ≤ count_earlier c (b.store c.output)
taken_slack t b c Nothing s k h = let f = k c h in omega arith
taken_slack t b c (For o) s k h =
    let new : Cell = record { slot = t; input = c.input; output = o } in
    elim (or_cases (same c new) (is_in c (b.waiting c.input)) (sym (is_in-put_at c (length (b.store o)) new (b.waiting c.input)) ∙ h)) [
      | inl e ↦
          (let q = same_eq c new e in
          let r : c.output ≡ o = ap (λ (z : Cell). z.output) q in
          let f = taken-new t c.input o b s c q in
          let g : ahead c (put_at (length (b.store o)) new (b.waiting c.input)) ≤ count_earlier c (b.store o) =
          subst (λ z. ahead c (put_at (length (b.store o)) z (b.waiting c.input)) ≤ count_earlier c (b.store o)) q f in
          subst (λ z. ahead c (put_at (length (b.store o)) new (b.waiting c.input)) ≤ count_earlier c (b.store z)) (sym r) g)
      | inr w ↦
          (let f = k c w in
          let g = ahead-put_at (length (b.store o)) c new (b.waiting c.input) in
          omega arith)
    ]

pub arriving_slack : (j room n t : ℕ) (a : Arrivals) (b : Box) → StoredBefore t b → Slack 1 b → Slack 0 (arriving j room n t a b)
arriving_slack j room n t a b s k c h =
    let i = c.input in
    let test = ltb i j && room_for room n i a b (a i) in
    let goal : (x : Bool) → is_in c (cond x (taken t i (a i) b) (b.waiting i)) ≡ true → ahead c (cond x (taken t i (a i) b) (b.waiting i)) ≤ count_earlier c (b.store c.output) =
    elim [ true ↦ λ g. taken_slack t b c (a i) s k g | false ↦ λ g. (let f = k c g in omega arith) ] in
    let f = goal test h in
    omega arith

pub arrive_slack : ArriveSlack
arrive_slack room n t a b s k = arriving_slack n room n t a b s k

-- who waits after a transfer waited before, and was not chosen
pub stayed : (c : Cell) (ms l : List Cell) → is_in c (without_all ms l) ≡ true → (is_in c l ≡ true) × (is_in c ms ≡ false)
stayed c ms l h = let i = is_in-without_all c ms l in (grind (arith, i), grind (arith, i))

pub transfer_slack : TransferSlack
transfer_slack k b ms st s c h =
    let w = b.waiting c.input in
    let es = for_output c.output ms in
    let x = stayed c ms w h in
    let f = s c x.0 in
    let grows = count-slip_all c es (b.store c.output) in
    let falls = ahead-without_all c ms w x.1 in
    elim (st.why c x.0) [
      | inl y ↦ absurd (both_ways (is_in c ms) x.1 y)
      | inr y ↦
          elim y.2 [
            | inl z ↦ (let less = ahead-without_all-less c y.0 ms w x.1 y.1 z.1 in omega arith)
            | inr z ↦
                (let i : is_in y.0 es ≡ true =
                is_in-for_output y.0 c.output ms ∙ and_from (is_in y.0 ms) (eqb y.0.output c.output) y.1 (eq-eqb y.0.output c.output z.0) in
                let more = count-slip_all-more c y.0 es (b.store c.output) i z.1 in
                omega arith)
          ]
    ]

pub depart_slack : DepartSlack
depart_slack k b r s c h =
    let f = s c h in
    let st = b.store c.output in
    let g = count-rest c st in
    let e = ap (λ l. count_earlier c l) (depart_drops st (r c.output)) in
    omega arith
