-- One turn of the loop is one ask of the model.
use Rattle.std.proofs.Common.{◌≡◌, ℕ, suc, ◌+◌, ◌*◌, ◌<◌, ◌≤◌, Bool, true, false, cond, not, ◌&&◌, ◌||◌, eqb, ltb, ◌⊎◌, length, get_or, set, Some, None, Option, sym, refl, ap, ◌∙◌, subst, inl, inr, arith}
use Rattle.std.proofs.lemmas.List.{get_or-set_same, get_or-set_other}
use Rattle.std.proofs.lemmas.Bool.{cases_Bool, cases_eq, both_ways, eq-eqb, ne_eqb}
use Rattle.std.proofs.lemmas.Bool.Decides.{nat_tests}
use Rattle.crossbox.specs.declared.Arrival.{Arrival}
use Rattle.crossbox.specs.declared.Arrival.TheVariants.{Nothing, For}
use Rattle.crossbox.specs.declared.Cell.{Cell}
use Rattle.crossbox.specs.Cells.{ahead}
use Rattle.crossbox.specs.Box.{Box}
use Rattle.crossbox.specs.Matching.{Finding, is_for, content, next_ask, prefers, keeping, refusing, asked}
use Rattle.crossbox.proofs.Asking.{some_eq, is_for-some, content-some, content-none}
use Rattle.crossbox.proofs.Finding.{Good}
use Rattle.matching.specs.declared.Firsts.{Firsts}
use Rattle.bits.specs.Bits.{is_set}
use Rattle.matching.specs.Table.{Ties, first_for, shown}
use Rattle.matching.specs.Asking.{names, prefers_in}
use Rattle.matching.specs.Loop.{may_ask, State, Tied, turned, Turn}
use Rattle.matching.proofs.Ask.{asker, asked-cell, asked-next}

-- no two inputs keep for one output
one_for : (b : Box) (s : Finding) → Good b s → (p i j : ℕ) → is_for p (s.kept i) ≡ true → is_for p (s.kept j) ≡ true → i ≡ j
one_for b s good p i j h g =
    let x = is_for-some p (s.kept i) h in
    let y = is_for-some p (s.kept j) g in
    good.one i j x.0 y.0 x.1 y.1 (x.2 ∙ sym y.2)

-- an output for which an input keeps a cell is content
pub content_from : (n p : ℕ) (s : Finding) (j : ℕ) → j < n → is_for p (s.kept j) ≡ true → content n p s ≡ true
content_from n p s j l h =
    elim (cases_Bool (content n p s)) [
      | inl e ↦ e
      | inr e ↦ absurd (both_ways (is_for p (s.kept j)) (content-none n p s e j l) h)
    ]

-- who is content when input i keeps w
content-now : (n : ℕ) (b : Box) (s v : Finding) → Good b s → (i : ℕ) (w : Option Cell) → i < n → ((j : ℕ) → v.kept j ≡ cond (eqb j i) w (s.kept j)) → (p : ℕ) → content n p v ≡ (is_for p w || (content n p s && not (is_for p (s.kept i))))
content-now n b s v good i w l f p =
    let here : is_for p (v.kept i) ≡ is_for p w =
    ap (λ z. is_for p z) (f i ∙ ap (λ z. cond z w (s.kept i)) (eq-eqb i i refl)) in
    elim (cases_Bool (content n p v)) [
      | inl e ↦
          (let x = content-some n p v e in
          let j = x.0 in
          elim (cases_eq j i) [
            | inl q ↦ (let y : is_for p w ≡ true = sym here ∙ subst (λ z. is_for p (v.kept z) ≡ true) q x.2 in grind (arith, e, y))
            | inr q ↦
                (let y : is_for p (s.kept j) ≡ true = ap (λ z. is_for p z) (sym (f j ∙ ap (λ z. cond z w (s.kept j)) (ne_eqb j i q))) ∙ x.2 in
                let c = content_from n p s j x.1 y in
                let k : is_for p (s.kept i) ≡ false =
                elim (cases_Bool (is_for p (s.kept i))) [ inl z ↦ absurd (q (one_for b s good p j i y z)) | inr z ↦ z ] in
                grind (arith, e, c, k))
          ])
      | inr e ↦
          (let y : is_for p w ≡ false = sym here ∙ content-none n p v e i l in
          elim (cases_Bool (content n p s)) [
            | inl c ↦
                (let x = content-some n p s c in
                let j = x.0 in
                elim (cases_eq j i) [
                  | inl q ↦ (let z : is_for p (s.kept i) ≡ true = subst (λ z. is_for p (s.kept z) ≡ true) q x.2 in grind (arith, e, y, z))
                  | inr q ↦
                      absurd
                      (both_ways (is_for p (v.kept j)) (content-none n p v e j x.1) (ap (λ z. is_for p z) (f j ∙ ap (λ z. cond z w (s.kept j)) (ne_eqb j i q)) ∙ x.2))
                ])
            | inr c ↦ grind (arith, e, y, c)
          ])
    ]

names-shown : (p : ℕ) (x : Option Cell) → names p (shown x) ≡ is_for p x
names-shown p None = refl
names-shown p (Some c) = refl

-- what changes when input i, asked for cell c by output o, keeps w and refuses l
module _ (n : ℕ) (b : Box) (s v : Finding) (good : Good b s) (st : State) (tied : Tied n b s st) (c : Cell) (o i : ℕ) (is-for : c.output ≡ o) (l-i : i < n) (in-choice : i < length st.choice) (in-askable : o < length st.askable) (leads-c : first_for o (b.waiting i) ≡ Some c) (discontent : content n o s ≡ false) (w l : Option Cell) (either : ((w ≡ Some c) × (l ≡ s.kept i)) ⊎ ((w ≡ s.kept i) × (l ≡ Some c))) (keeps-w : (j : ℕ) → v.kept j ≡ cond (eqb j i) w (s.kept j)) (refuses-l : (j p : ℕ) → v.refused j p ≡ ((eqb j i && is_for p l) || s.refused j p)) where
  -- which of the two is for which output
  either_for : (p : ℕ) → ((is_for p w ≡ eqb o p) × (is_for p l ≡ is_for p (s.kept i))) ⊎ ((is_for p w ≡ is_for p (s.kept i)) × (is_for p l ≡ eqb o p))
  either_for p =
      let k : is_for p (Some c) ≡ eqb o p = ap (λ z. eqb z p) is-for in
      elim either [
        | inl e ↦ inl (ap (λ z. is_for p z) e.0 ∙ k, ap (λ z. is_for p z) e.1)
        | inr e ↦ inr (ap (λ z. is_for p z) e.0, ap (λ z. is_for p z) e.1 ∙ k)
      ]

  turn_keeps : (j : ℕ) → get_or (set st.choice i (shown w)) j Nothing ≡ shown (v.kept j)
  turn_keeps j =
      elim (cases_eq j i) [
        | inl q ↦
            ap (λ z. get_or (set st.choice i (shown w)) z Nothing) q ∙ (get_or-set_same st.choice i (shown w) Nothing in-choice ∙ ap (λ z. shown z) (sym (keeps-w j ∙ ap (λ z. cond z w (s.kept j)) (eq-eqb j i q))))
        | inr q ↦
            get_or-set_other st.choice i j (shown w) Nothing q ∙ (tied.keeps j ∙ ap (λ z. shown z) (sym (keeps-w j ∙ ap (λ z. cond z w (s.kept j)) (ne_eqb j i q))))
      ]

  turn_leads : (j : ℕ) (d : Cell) → v.kept j ≡ Some d → first_for d.output (b.waiting j) ≡ Some d
  turn_leads j d h =
      elim (cases_eq j i) [
        | inl q ↦
            (let e : w ≡ Some d = sym (keeps-w j ∙ ap (λ z. cond z w (s.kept j)) (eq-eqb j i q)) ∙ h in
            subst (λ z. first_for d.output (b.waiting z) ≡ Some d) (sym q) (elim either [
              | inl x ↦ (let k : c ≡ d = some_eq (sym x.0 ∙ e) in subst (λ z. first_for z.output (b.waiting i) ≡ Some z) k (subst (λ z. first_for z (b.waiting i) ≡ Some c) (sym is-for) leads-c))
              | inr x ↦ tied.leads i d (sym x.0 ∙ e)
            ]))
        | inr q ↦ tied.leads j d (sym (keeps-w j ∙ ap (λ z. cond z w (s.kept j)) (ne_eqb j i q)) ∙ h)
      ]

  module _ (row : ℕ) (row_is : (j : ℕ) → is_set row j ≡ (not (eqb j i) && is_set (get_or st.askable o 0) j)) where
    row_at : (p : ℕ) → ((p ≡ o) × (get_or (set st.askable o row) p 0 ≡ row)) ⊎ ((p ≡ o → ⊥) × (get_or (set st.askable o row) p 0 ≡ get_or st.askable p 0))
    row_at p =
        elim (cases_eq p o) [
          | inl q ↦ inl (q, ap (λ z. get_or (set st.askable o row) z 0) q ∙ get_or-set_same st.askable o row 0 in-askable)
          | inr q ↦ inr (q, get_or-set_other st.askable o p row 0 q)
        ]

    turn_left : (j p : ℕ) → is_set (get_or (set st.askable o row) p 0) j ≡ may_ask b v j p
    turn_left j p =
        let k : is_for p (v.kept j) ≡ cond (eqb j i) (is_for p w) (is_for p (s.kept j)) = go (eqb j i) (keeps-w j) in
        let r = refuses-l j p in
        let e = either_for p in
        let was = tied.left j p in
        let at_i : j ≡ i → is_for p (s.kept j) ≡ is_for p (s.kept i) = λ q. ap (λ z. is_for p (s.kept z)) q in
        elim (row_at p) [
          | inl q ↦
              (let x : is_set (get_or (set st.askable o row) p 0) j ≡ (not (eqb j i) && is_set (get_or st.askable p 0) j) =
              ap (λ z. is_set z j) q.1 ∙ (row_is j ∙ ap (λ z. not (eqb j i) && is_set (get_or st.askable z 0) j) (sym q.0)) in
              let y = eq-eqb o p (sym q.0) in
              grind (arith, nat_tests, x, y, k, r, e, was, at_i))
          | inr q ↦
              (let x : is_set (get_or (set st.askable o row) p 0) j ≡ is_set (get_or st.askable p 0) j = ap (λ z. is_set z j) q.1 in
              let y = ne_eqb o p (λ z. q.0 (sym z)) in
              grind (arith, nat_tests, x, y, k, r, e, was, at_i))
        ]
      where
        go : (t : Bool) → v.kept j ≡ cond t w (s.kept j) → is_for p (v.kept j) ≡ cond t (is_for p w) (is_for p (s.kept j))
        go true h = ap (λ z. is_for p z) h
        go false h = ap (λ z. is_for p z) h

    turn_asks : (asks-now : ℕ) → ((p : ℕ) → is_set asks-now p ≡ ((names p (shown l) && not (eqb (get_or (set st.askable o row) p 0) 0)) || (not (eqb p o) && is_set st.asking p))) → (p : ℕ) → is_set asks-now p ≡ (not (content n p v) && not (eqb (get_or (set st.askable o row) p 0) 0))
    turn_asks asks-now h p =
        let a = h p in
        let m = names-shown p l in
        let was = tied.asks p in
        let t = content-now n b s v good i w l-i keeps-w p in
        let e = either_for p in
        let kept-content = content_from n p s i l-i in
        elim (row_at p) [
          | inl q ↦
              (let y = eq-eqb o p (sym q.0) in
              let y2 = eq-eqb p o q.0 in
              let d : content n p s ≡ false = subst (λ z. content n z s ≡ false) (sym q.0) discontent in
              grind (arith, a, m, was, t, e, kept-content, y, y2, d))
          | inr q ↦
              (let y = ne_eqb o p (λ z. q.0 (sym z)) in
              let y2 = ne_eqb p o q.0 in
              let x : eqb (get_or (set st.askable o row) p 0) 0 ≡ eqb (get_or st.askable p 0) 0 = ap (λ z. eqb z 0) q.1 in
              grind (arith, a, m, was, t, e, kept-content, y, y2, x))
        ]

    pub turn : (asks-now : ℕ) → ((p : ℕ) → is_set asks-now p ≡ ((names p (shown l) && not (eqb (get_or (set st.askable o row) p 0) 0)) || (not (eqb p o) && is_set st.asking p))) → Tied n b v (turned st o i (shown w) row asks-now)
    turn asks-now h =
        record { keeps = turn_keeps; leads = turn_leads; left = turn_left; asks = turn_asks asks-now h }

refusing_is : (i : ℕ) (x : Option Cell) (r : ℕ → ℕ → Bool) (j p : ℕ) → refusing i x r j p ≡ ((eqb j i && is_for p x) || r j p)
refusing_is i None r j p = grind arith
refusing_is i (Some d) r j p = refl

kept_same : (i j : ℕ) (f : ℕ → Option Cell) → f j ≡ cond (eqb j i) (f i) (f j)
kept_same i j f =
    elim (cases_eq j i) [
      | inl q ↦ ap (λ z. f z) q ∙ sym (ap (λ z. cond z (f i) (f j)) (eq-eqb j i q))
      | inr q ↦ sym (ap (λ z. cond z (f i) (f j)) (ne_eqb j i q))
    ]

-- the places of the table say which of two cells an input prefers
prefers_in_lem : (n : ℕ) (b : Box) (t : Firsts) → Ties t n b → (c : Cell) (i o : ℕ) → c.input ≡ i → first_for o (b.waiting i) ≡ Some c → (x : Option Cell) → ((d : Cell) → x ≡ Some d → first_for d.output (b.waiting i) ≡ Some d) → prefers_in t.places i o (shown x) ≡ prefers b c x
prefers_in_lem n b t ties c i o ci f None g = refl
prefers_in_lem n b t ties c i o ci f (Some d) g =
    let p = ties.place i o c f ∙ ap (λ z. ahead c (b.waiting z)) (sym ci) in
    let q = ties.place i d.output d (g d refl) ∙ ap (λ z. ahead d (b.waiting z)) (sym ci) in
    ap (λ z. ltb z (get_or t.places (i * 32 + d.output) 0)) p ∙ ap (λ z. ltb (ahead c (b.waiting c.input)) z) q

-- the turn is the model's ask
module _ (n : ℕ) (fits : n ≤ 32) (b : Box) (t : Firsts) (ties : Ties t n b) (s : Finding) (good : Good b s) (st : State) (tied : Tied n b s st) (all-choice : length st.choice ≡ 32) (all-askable : length st.askable ≡ 32) where
  pub asked_turn : (o i : ℕ) (keeps refuses : Arrival) (row now : ℕ) → Turn t st o i keeps refuses row now → Tied n b (asked b (next_ask n n b s) s) (turned st o i keeps row now) × ((asked b (next_ask n n b s) s).asks ≡ suc s.asks)
  asked_turn o i keeps refuses row now step =
      let low = step.low in
      let best = step.best in
      let a = asked-cell n b t ties s st tied o i best.among in
      let c = a.0 in
      let f = a.1 in
      let co = a.3 in
      let ci = a.4 in
      let li = a.5 in
      let next = asked-next n b t ties s st tied fits o i low best c f a.2 co ci li a.6 a.7 in
      let dis = (asker n b t ties s st tied o low.here).0 in
      let x = s.kept c.input in
      let before : get_or st.choice i Nothing ≡ shown x = tied.keeps i ∙ ap (λ z. shown (s.kept z)) (sym ci) in
      let wins = prefers_in t.places i o (get_or st.choice i Nothing) in
      let same_test : wins ≡ prefers b c x =
      ap (λ z. prefers_in t.places i o z) before ∙ prefers_in_lem n b t ties c i o ci f x (λ d e. tied.leads i d (ap (λ z. s.kept z) (sym ci) ∙ e)) in
      let yes : Finding =
      record { kept = keeping c.input c s.kept; refused = refusing c.input x s.refused; asks = suc s.asks } in
      let no : Finding =
      record { kept = s.kept; refused = refusing c.input (Some c) s.refused; asks = suc s.asks } in
      let Again : Arrival → Type 0 =
      λ z. (p : ℕ) → is_set now p ≡ ((names p z && not (eqb (get_or (set st.askable o row) p 0) 0)) || (not (eqb p o) && is_set st.asking p)) in
      let Next : Finding → Type 0 = λ v. Tied n b v (turned st o i keeps row now) × (v.asks ≡ suc s.asks) in
      let there-i : i < length st.choice = omega (arith, best.small) in
      let there-o : o < length st.askable = omega (arith, low.small) in
      subst (λ z. Next (asked b z s)) (sym next)
      (elim (cases_Bool wins) [
        | inl e ↦
            (let k : keeps ≡ shown (Some c) = step.one ∙ (ap (λ z. cond z (For o) (get_or st.choice i Nothing)) e ∙ ap (λ z. For z) (sym co)) in
            let r : refuses ≡ shown (s.kept i) = step.other ∙ (ap (λ z. cond z (get_or st.choice i Nothing) (For o)) e ∙ tied.keeps i) in
            let keeps-w : (j : ℕ) → yes.kept j ≡ cond (eqb j i) (Some c) (s.kept j) =
            λ j. ap (λ z. cond (eqb j z) (Some c) (s.kept j)) ci in
            let refuses-l : (j p : ℕ) → yes.refused j p ≡ ((eqb j i && is_for p (s.kept i)) || s.refused j p) =
            λ j p. refusing_is c.input x s.refused j p ∙ ap (λ z. (eqb j z && is_for p (s.kept z)) || s.refused j p) ci in
            let g = turn n b s yes good st tied c o i co li there-i there-o f dis (Some c) (s.kept i) (inl (refl, refl)) keeps-w refuses-l row step.cleared now (subst (λ z. Again z) r step.again) in
            subst (λ z. Next (cond z yes no)) (sym e ∙ same_test) (subst (λ z. Tied n b yes (turned st o i z row now)) (sym k) g, refl))
        | inr e ↦
            (let k : keeps ≡ shown (s.kept i) = step.one ∙ (ap (λ z. cond z (For o) (get_or st.choice i Nothing)) e ∙ tied.keeps i) in
            let r : refuses ≡ shown (Some c) = step.other ∙ (ap (λ z. cond z (get_or st.choice i Nothing) (For o)) e ∙ ap (λ z. For z) (sym co)) in
            let refuses-l : (j p : ℕ) → no.refused j p ≡ ((eqb j i && is_for p (Some c)) || s.refused j p) =
            λ j p. ap (λ z. (eqb j z && eqb c.output p) || s.refused j p) ci in
            let g = turn n b s no good st tied c o i co li there-i there-o f dis (s.kept i) (Some c) (inr (refl, refl)) (λ j. kept_same i j s.kept) refuses-l row step.cleared now (subst (λ z. Again z) r step.again) in
            subst (λ z. Next (cond z yes no)) (sym e ∙ same_test) (subst (λ z. Tied n b no (turned st o i z row now)) (sym k) g, refl))
      ])
