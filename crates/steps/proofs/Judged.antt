-- A choice is taken just where all its cells wait and it is stable.
use Rattle.std.proofs.Common.{◌≡◌, ℕ, zero, suc, ◌<◌, Bool, true, false, cond, not, ◌&&◌, eqb, ◌⊎◌, List, [], ◌∷◌, length, get_or, Some, None, Ok, Err, Option, Result, sym, refl, ap, ◌∙◌, subst, inl, inr, arith}
use Rattle.std.proofs.lemmas.Bool.{cases_eq, cases_Bool, or_cases, eqb-true}
use Rattle.std.proofs.lemmas.Bool.Decides.{nat_tests}
use Rattle.crossbox.specs.declared.Arrival.{Arrival}
use Rattle.crossbox.specs.declared.Arrival.TheVariants.{Nothing, For}
use Rattle.crossbox.specs.declared.Cell.{Cell}
use Rattle.crossbox.specs.Cells.{Arrivals, earlier, same, is_in, ahead}
use Rattle.crossbox.specs.Ideal.{first}
use Rattle.crossbox.specs.Box.{Box, Stable, Reason, for_output, shares_none, one_each}
use Rattle.crossbox.proofs.Cells.{same_eq, same_refl, same_sym}
use Rattle.crossbox.proofs.Choices.{one_output_lem}
use Rattle.crossbox.proofs.Lists.{is_in-same}
use Rattle.words.specs.declared.fault.Fault.{Fault}
use Rattle.words.specs.declared.fault.Fault.TheVariants.{NotWaiting, SharedOutput, Unstable}
use Rattle.places.specs.Memory.{Mem}
use Rattle.steps.specs.Spells.{Spells, box_of}
use Rattle.steps.specs.Choice.{first_for, named, also, picks, waits_in, all_wait, is_named, named_before, is_new, one_output, beats, settled, all_settled, gets_of, judge_choice, JudgedIsStable}
use Rattle.firsts.specs.Firsts.{position}
use Rattle.steps.proofs.Lists.{spelled-cells}
use Rattle.steps.proofs.Named.{first-position, first_in, named_in, AtHome, picks_out, picks_into}
use Rattle.steps.proofs.Transfers.{all_wait_at, waits_position}
use Rattle.steps.proofs.Transferred.{all_wait_alike, one_output_at}
use Rattle.steps.proofs.Judging.{all_settled_at, judged_good}

-- boxes whose lists agree are judged alike

picks_alike : (n : ℕ) (ch : Arrivals) (b d : Box) → ((i : ℕ) → i < n → b.waiting i ≡ d.waiting i) → picks n ch b ≡ picks n ch d
unfolding picks
picks_alike zero ch b d f = refl
picks_alike (suc n) ch b d f =
    ap (λ (l : List Cell). also (named (ch n) l) (picks n ch b)) (f n (omega arith))
    ∙ ap (λ (ms : List Cell). also (named (ch n) (d.waiting n)) ms) (picks_alike n ch b d (λ i h. f i (omega arith)))

settled_lists : (n : ℕ) (gets : ℕ → Option Cell) (ch : Arrivals) (b d : Box) → ((i : ℕ) → i < n → b.waiting i ≡ d.waiting i) → all_settled n gets ch b ≡ all_settled n gets ch d
unfolding all_settled
settled_lists zero gets ch b d f = refl
settled_lists (suc n) gets ch b d f =
    ap (λ (l : List Cell). settled gets (ch n) l && all_settled n gets ch b) (f n (omega arith))
    ∙ ap (λ (t : Bool). settled gets (ch n) (d.waiting n) && t) (settled_lists n gets ch b d (λ i h. f i (omega arith)))

judged_lists : (n : ℕ) (ch : Arrivals) (b d : Box) → ((i : ℕ) → i < n → b.waiting i ≡ d.waiting i) → judge_choice n ch b ≡ judge_choice n ch d
judged_lists n ch b d f =
    ap (λ (t : Bool). cond t (cond (one_output n ch) (cond (all_settled n (gets_of (picks n ch b)) ch b) (Ok tt) (Err Unstable)) (Err SharedOutput)) (Err NotWaiting)) (all_wait_alike n ch b d f)
    ∙ (ap (λ (t : Bool). cond (all_wait n ch d) (cond (one_output n ch) (cond t (Ok tt) (Err Unstable)) (Err SharedOutput)) (Err NotWaiting)) (settled_lists n (gets_of (picks n ch b)) ch b d f)
    ∙ ap (λ (ms : List Cell). cond (all_wait n ch d) (cond (one_output n ch) (cond (all_settled n (gets_of ms) ch d) (Ok tt) (Err Unstable)) (Err SharedOutput)) (Err NotWaiting)) (picks_alike n ch b d f))

-- memory that spells a box is judged as the box
pub judged-spelled : (bytes : Cell → List ℕ) (n : ℕ) (m : Mem) (b : Box) (ch : Arrivals) → Spells bytes n m b → judge_choice n ch (box_of n m) ≡ judge_choice n ch b
judged-spelled bytes n m b ch sp =
    judged_lists n ch (box_of n m) b (λ i h. spelled-cells bytes m i (b.waiting i) (sp.lists i h))

-- what a good judgement says
pub record Taken (n : ℕ) (ch : Arrivals) (b : Box) : Type 0 where
  pub wait : all_wait n ch b ≡ true
  pub one : one_output n ch ≡ true
  pub settle : all_settled n (gets_of (picks n ch b)) ch b ≡ true

pub taken : (n : ℕ) (ch : Arrivals) (b : Box) → Ok tt ≡ judge_choice n ch b → Taken n ch b
taken n ch b e = go (all_wait n ch b) refl (one_output n ch) refl (all_settled n (gets_of (picks n ch b)) ch b) refl e
  where
    go : (w : Bool) → all_wait n ch b ≡ w → (u : Bool) → one_output n ch ≡ u → (t : Bool) → all_settled n (gets_of (picks n ch b)) ch b ≡ t → ◌≡◌ {A = Result (Unit {0}) Fault} (Ok tt) (cond w (cond u (cond t (Ok tt) (Err Unstable)) (Err SharedOutput)) (Err NotWaiting)) → Taken n ch b
    go false p u q t r e = absurd (let z : ◌≡◌ {A = ℕ} 0 1 = cc in omega arith)
    go true p false q t r e = absurd (let z : ◌≡◌ {A = ℕ} 0 1 = cc in omega arith)
    go true p true q false r e = absurd (let z : ◌≡◌ {A = ℕ} 0 1 = cc in omega arith)
    go true p true q true r e = record { wait = p; one = q; settle = r }

-- why a cell of a list may stay: its output gets an earlier one, or the list sends it or one that stands before it
abbrev Stays : (ℕ → Option Cell) → Arrival → List Cell → Cell → Type 0
Stays gets x l c =
    (beats (gets c.output) c ≡ true) ⊎ ((m : Cell) × (named x l ≡ Some m) × ((same c m ≡ true) ⊎ (ahead m l < ahead c l)))

named_skip : (x : Arrival) (d : Cell) (l : List Cell) → is_named d.output x ≡ false → named x (d ∷ l) ≡ named x l
unfolding for_output
named_skip Nothing d l h = refl
named_skip (For p) d l h =
    let y : eqb d.output p ≡ false = grind (arith, nat_tests) in
    ap (λ (t : Bool). first (cond t (d ∷ for_output p l) (for_output p l))) y

named_here : (x : Arrival) (d : Cell) (l : List Cell) → is_named d.output x ≡ true → named x (d ∷ l) ≡ Some d
unfolding for_output
named_here Nothing d l h = absurd (grind arith)
named_here (For p) d l h =
    let y : eqb d.output p ≡ true = grind (arith, nat_tests) in
    ap (λ (t : Bool). first (cond t (d ∷ for_output p l) (for_output p l))) y

named_is : (x : Arrival) (l : List Cell) (m : Cell) → named x l ≡ Some m → is_named m.output x ≡ true
named_is x l m e =
    ap (λ (z : Arrival). is_named m.output z) (named_in x l m e).1 ∙ (let y : eqb m.output m.output ≡ true = grind (arith, nat_tests) in y)

settled_stays : (gets : ℕ → Option Cell) (x : Arrival) (l : List Cell) → settled gets x l ≡ true → (c : Cell) → is_in c l ≡ true → Stays gets x l c
unfolding settled is_in ahead
settled_stays gets x [] h c i = absurd (grind arith)
settled_stays gets x (d ∷ l) h c i =
    elim (cases_Bool (is_named d.output x)) [
      | inl t ↦
          inr (d, named_here x d l t, elim (cases_Bool (same c d)) [ inl q ↦ inl q | inr q ↦ inr (let s = same_refl d in grind (arith, s)) ])
      | inr t ↦
          elim (cases_Bool (same c d)) [
            | inl q ↦ inl (let e = same_eq c d q in subst (λ (z : Cell). beats (gets z.output) z ≡ true) (sym e) (grind arith))
            | inr q ↦
                elim (settled_stays gets x l (grind arith) c (grind arith)) [
                  | inl y ↦ inl y
                  | inr y ↦ inr (y.0, named_skip x d l t ∙ y.1, elim y.2 [ inl z ↦ inl z | inr z ↦ inr (grind (arith, z)) ])
                ]
          ]
    ]

stays_settled : (gets : ℕ → Option Cell) (x : Arrival) (l : List Cell) → ((c : Cell) → is_in c l ≡ true → Stays gets x l c) → settled gets x l ≡ true
unfolding settled is_in ahead
stays_settled gets x [] f = refl
stays_settled gets x (d ∷ l) f =
    elim (cases_Bool (is_named d.output x)) [
      | inl t ↦ grind arith
      | inr t ↦
          let s = same_refl d in
          let own : (m : Cell) → named x (d ∷ l) ≡ Some m → same m d ≡ false = λ m e. elim (cases_Bool (same m d)) [
            | inl q ↦ absurd (let p = subst (λ (z : Cell). is_named z.output x ≡ true) (same_eq m d q) (named_is x (d ∷ l) m e) in grind arith)
            | inr q ↦ q
          ] in
          let first-beaten : beats (gets d.output) d ≡ true = elim (f d (grind (arith, s))) [
            | inl y ↦ y
            | inr y ↦ elim y.2 [
              | inl z ↦ absurd (let o = own y.0 y.1 in let w = same_sym d y.0 in grind arith)
              | inr z ↦ absurd (grind (arith, s, z))
            ]
          ] in
          let ih = stays_settled gets x l (λ c i. elim (f c (grind arith)) [
            | inl y ↦ inl y
            | inr y ↦ inr (
              y.0,
              sym (named_skip x d l t) ∙ y.1,
              elim y.2 [
                | inl z ↦ inl z
                | inr z ↦ inr (let o = own y.0 y.1 in grind (arith, z, o))
              ],
            )
          ]) in
          grind (arith, first-beaten, ih)
    ]

-- what an output gets

first_some : (o : ℕ) (ms : List Cell) (m : Cell) → is_in m ms ≡ true → m.output ≡ o → (c : Cell) × (first_for o ms ≡ Some c)
unfolding is_in for_output
first_some o [] m h e = absurd (grind arith)
first_some o (d ∷ ms) m h e =
    elim (cases_Bool (eqb d.output o)) [
      | inl t ↦ (d, ap (λ (w : Bool). first (cond w (d ∷ for_output o ms) (for_output o ms))) t)
      | inr t ↦
          let ih = first_some o ms m (elim (or_cases (same m d) (is_in m ms) h) [
            | inl q ↦ absurd (let p = ap (λ (z : Cell). z.output) (same_eq m d q) in grind (arith, nat_tests))
            | inr q ↦ q
          ]) e in
          (ih.0, ap (λ (w : Bool). first (cond w (d ∷ for_output o ms) (for_output o ms))) t ∙ ih.1)
    ]

beats-some : (x : Option Cell) (c : Cell) → beats x c ≡ true → (m : Cell) × (x ≡ Some m) × (earlier m c ≡ true)
beats-some None c h = absurd (grind arith)
beats-some (Some m) c h = (m, refl, h)

-- the first inputs

named-before : (k i o : ℕ) (ch : Arrivals) → i < k → ch i ≡ For o → named_before k ch o ≡ true
unfolding named_before
named-before zero i o ch h e = absurd (omega arith)
named-before (suc k) i o ch h e =
    elim (cases_eq i k) [
      | inl q ↦ (let p : is_named o (ch k) ≡ true = ap (λ (x : Arrival). is_named o x) (subst (λ (z : ℕ). ch z ≡ For o) q e) ∙ (let y : eqb o o ≡ true = grind (arith, nat_tests) in y) in grind (arith, p))
      | inr ne ↦ (let ih = named-before k i o ch (omega arith) e in grind (arith, ih))
    ]

is_named_for : (o : ℕ) (x : Arrival) → is_named o x ≡ true → x ≡ For o
is_named_for o Nothing h = absurd (grind arith)
is_named_for o (For p) h = ap (λ (z : ℕ). For z) (eqb-true p o h)

before-named : (k o : ℕ) (ch : Arrivals) → named_before k ch o ≡ true → (i : ℕ) × (i < k) × (ch i ≡ For o)
unfolding named_before
before-named zero o ch h = absurd (grind arith)
before-named (suc k) o ch h =
    elim (or_cases (is_named o (ch k)) (named_before k ch o) h) [
      | inl q ↦ (k, omega arith, is_named_for o (ch k) q)
      | inr q ↦ (let ih = before-named k o ch q in (ih.0, omega (arith, ih.1), ih.2))
    ]

one_from : (n : ℕ) (ch : Arrivals) → ((k : ℕ) → k < n → is_new k ch (ch k) ≡ true) → one_output n ch ≡ true
unfolding one_output
one_from zero ch f = refl
one_from (suc n) ch f =
    let p = f n (omega arith) in
    let ih = one_from n ch (λ k h. f k (omega arith)) in
    grind (arith, p, ih)

settled_from : (n : ℕ) (gets : ℕ → Option Cell) (ch : Arrivals) (b : Box) → ((k : ℕ) → k < n → settled gets (ch k) (b.waiting k) ≡ true) → all_settled n gets ch b ≡ true
unfolding all_settled
settled_from zero gets ch b f = refl
settled_from (suc n) gets ch b f =
    let p = f n (omega arith) in
    let ih = settled_from n gets ch b (λ k h. f k (omega arith)) in
    grind (arith, p, ih)

shares_from : (c : Cell) (ms : List Cell) → ((d : Cell) → is_in d ms ≡ true → (c.input ≡ d.input → ⊥) × (c.output ≡ d.output → ⊥)) → shares_none c ms ≡ true
unfolding shares_none is_in
shares_from c [] f = refl
shares_from c (d ∷ ms) f =
    let s = same_refl d in
    let p = f d (grind (arith, s)) in
    let a = p.0 in
    let b = p.1 in
    let ih = shares_from c ms (λ e h. f e (grind arith)) in
    grind (arith, nat_tests, a, b, ih)

module _ (ch : Arrivals) (b : Box) (home : AtHome b) where
  picks_apart : (n : ℕ) → ((k : ℕ) → k < n → is_new k ch (ch k) ≡ true) → one_each (picks n ch b) ≡ true
  unfolding picks one_each
  picks_apart zero f = refl
  picks_apart (suc n) f = go (picks_apart n (λ k h. f k (omega arith))) (named (ch n) (b.waiting n)) refl
    where
      go : one_each (picks n ch b) ≡ true → (x : Option Cell) → named (ch n) (b.waiting n) ≡ x → one_each (also x (picks n ch b)) ≡ true
      go ih None e = ih
      go ih (Some c) e =
          let at : c.input ≡ n = home n c (named_in (ch n) (b.waiting n) c e).0 in
          let for = (named_in (ch n) (b.waiting n) c e).1 in
          let new = subst (λ (x : Arrival). is_new n ch x ≡ true) for (f n (omega arith)) in
          let s = shares_from c (picks n ch b) (λ d h.
          let o = picks_out ch b home n d h in
          let l = o.0 in (
            λ q. omega arith,
            λ q. let w = named-before n d.input d.output ch l (named_in (ch d.input) (b.waiting d.input) d o.1).1 in
                let v : named_before n ch c.output ≡ true = ap (λ (z : ℕ). named_before n ch z) q ∙ w in
                let z : ◌≡◌ {A = Bool} true false = (grind arith) in
                let y : ◌≡◌ {A = ℕ} 0 1 = cc in
                omega arith,
          )) in
          grind (arith, s, ih)

-- cells wait at inputs that are there
abbrev pub There : ℕ → Box → Type 0
There n b = (i : ℕ) (c : Cell) → is_in c (b.waiting i) ≡ true → (c.input ≡ i) × (i < n)

module _ (n : ℕ) (ch : Arrivals) (b : Box) (well : There n b) where
  home : AtHome b
  home i c h = (well i c h).0

  module _ (t : Taken n ch b) where
    why : (c : Cell) → is_in c (b.waiting c.input) ≡ true → (is_in c (picks n ch b) ≡ true) ⊎ Reason b (picks n ch b) c
    why c h =
        let l = (well c.input c h).1 in
        elim (settled_stays (gets_of (picks n ch b)) (ch c.input) (b.waiting c.input) (all_settled_at n c.input (gets_of (picks n ch b)) ch b t.settle l) c h) [
          | inl y ↦
              let s = beats-some (first_for c.output (picks n ch b)) c y in
              let f = first_in c.output (picks n ch b) s.0 s.1 in
              inr (s.0, f.0, inr (f.1, s.2))
          | inr y ↦
              let p = picks_into ch b n c.input y.0 l y.1 in
              elim y.2 [
                | inl z ↦ inl (is_in-same c y.0 (picks n ch b) z ∙ p)
                | inr z ↦ inr (y.0, p, inl (home c.input y.0 (named_in (ch c.input) (b.waiting c.input) y.0 y.1).0, z))
              ]
        ]

    taken_stable : Stable b (picks n ch b)
    taken_stable =
        record {
          waits = λ c h. let o = picks_out ch b home n c h in (named_in (ch c.input) (b.waiting c.input) c o.1).0;
          single = picks_apart ch b home n (λ k h. one_output_at n k ch t.one h);
          why = why;
        }

  module _ (w : all_wait n ch b ≡ true) (st : Stable b (picks n ch b)) where
    -- the cell that is named at an input waits
    waits_some : (k o : ℕ) → k < n → ch k ≡ For o → (c : Cell) × (named (ch k) (b.waiting k) ≡ Some c)
    waits_some k o h e =
        let l = subst (λ (x : Arrival). waits_in x (b.waiting k) ≡ true) e (all_wait_at n k ch b w h) in
        let d : position o (b.waiting k) < length (b.waiting k) = waits_position o (b.waiting k) l in
        let nobody : Cell = record { slot = 0; input = 0; output = 0 } in
        (get_or (b.waiting k) (position o (b.waiting k)) nobody, ap (λ (x : Arrival). named x (b.waiting k)) e ∙ first-position o (b.waiting k) nobody d)

    named_output : (k o : ℕ) (c : Cell) → ch k ≡ For o → named (ch k) (b.waiting k) ≡ Some c → c.output ≡ o
    named_output k o c e q = (first_in o (b.waiting k) c (sym (ap (λ (x : Arrival). named x (b.waiting k)) e) ∙ q)).1

    all_new : (k : ℕ) → k < n → (x : Arrival) → ch k ≡ x → is_new k ch x ≡ true
    all_new k h Nothing e = refl
    all_new k h (For o) e =
        elim (cases_Bool (named_before k ch o)) [
          | inl t ↦
              absurd (
              let j = before-named k o ch t in
              let l = j.1 in
              let c = waits_some k o h e in
              let d = waits_some j.0 o (omega arith) j.2 in
              let p = picks_into ch b n k c.0 h c.1 in
              let q = picks_into ch b n j.0 d.0 (omega arith) d.1 in
              let s = one_output_lem c.0 d.0 (picks n ch b) st.single p q (named_output k o c.0 e c.1 ∙ sym (named_output j.0 o d.0 j.2 d.1)) in
              let i = home k c.0 (named_in (ch k) (b.waiting k) c.0 c.1).0 in
              let m = home j.0 d.0 (named_in (ch j.0) (b.waiting j.0) d.0 d.1).0 in
              let r : c.0.input ≡ d.0.input = ap (λ (z : Cell). z.input) (same_eq c.0 d.0 s) in
              omega arith)
          | inr t ↦ ap (λ (z : Bool). not z) t
        ]

    stays : (k : ℕ) → k < n → (c : Cell) → is_in c (b.waiting k) ≡ true → Stays (gets_of (picks n ch b)) (ch k) (b.waiting k) c
    stays k h c i =
        let e = home k c i in
        let named-at : (m : Cell) → is_in m (picks n ch b) ≡ true → m.input ≡ k → named (ch k) (b.waiting k) ≡ Some m =
        λ m p q. subst (λ (z : ℕ). named (ch z) (b.waiting z) ≡ Some m) q (picks_out ch b home n m p).1 in
        elim (st.why c (subst (λ (z : ℕ). is_in c (b.waiting z) ≡ true) (sym e) i)) [
          | inl p ↦ inr (c, named-at c p e, inl (same_refl c))
          | inr r ↦
              elim r.2 [
                | inl y ↦ inr (r.0, named-at r.0 r.1 (y.0 ∙ e), inr (subst (λ (z : ℕ). ahead r.0 (b.waiting z) < ahead c (b.waiting z)) e y.1))
                | inr y ↦
                    let f = first_some c.output (picks n ch b) r.0 r.1 y.0 in
                    let g = first_in c.output (picks n ch b) f.0 f.1 in
                    let s = one_output_lem f.0 r.0 (picks n ch b) st.single g.0 r.1 (g.1 ∙ sym y.0) in
                    inl (ap (λ (x : Option Cell). beats x c) f.1 ∙ (ap (λ (x : Cell). earlier x c) (same_eq f.0 r.0 s) ∙ y.1))
              ]
        ]

    stable_taken : Ok tt ≡ judge_choice n ch b
    stable_taken =
        judged_good n ch b w (one_from n ch (λ k h. all_new k h (ch k) refl))
        (settled_from n (gets_of (picks n ch b)) ch b (λ k h. stays_settled (gets_of (picks n ch b)) (ch k) (b.waiting k) (stays k h)))

-- a choice is taken just where each cell that it names waits, and it is stable
pub judged_stable : JudgedIsStable
judged_stable n ch b well = (λ e. ((taken n ch b e).wait, taken_stable n ch b well (taken n ch b e)), λ w s. stable_taken n ch b well w s)
