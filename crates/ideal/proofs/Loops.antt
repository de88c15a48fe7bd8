-- One turn of each loop over a slot's inputs and outputs, in the shapes in which the code has it.
use Rattle.std.proofs.Common.{◌≡◌, ℕ, ◌+◌, ◌<◌, ◌≤◌, Bool, false, List, [], ◌∷◌, ◌++◌, map, length, get_or, take, set, sym, refl, ap, ◌∙◌, subst, inl, inr, add-one, arith}
use Rattle.std.proofs.lemmas.List.{get_or-set_same, get_or-set_other, length-set, length-take-le, get_or-take}
use Rattle.std.specs.List.{range_with_len}
use Rattle.std.proofs.lemmas.List.FromFn.{fill_by_all}
use Rattle.std.proofs.lemmas.Bool.{cases_eq}
use Rattle.crossbox.specs.declared.Arrival.{Arrival}
use Rattle.buffer.specs.Memory.{Mem}
use Rattle.words.specs.Lines.{Line, no_line}
use Rattle.words.specs.Answer.{Departure, leaving, leaving_all}
use Rattle.words.specs.Writing.{Draft, appended}
use Rattle.words.proofs.Answered.{departure_more, no_departures}
use Rattle.ideal.specs.State.{State, Good}
use Rattle.ideal.specs.Steps.{Brings, turned_away, admit_in, admit_one, admit_all, admitted, away, departure_of, depart_one, departing, depart_all, departed, departures}
use Rattle.ideal.proofs.Good.{with, Bring, bring_at, admit_all_good, depart_all_good}

-- nothing admitted yet
pub admitted-none : (ls : List Line) (s : State) → s ≡ admitted 0 ls s
unfolding admit_all
admitted-none ls s = refl

admit-next : (t : ℕ) (ls : List Line) (k : ℕ) (m : Mem) → admit_all t ls (k + 1) m ≡ admit_in t k (get_or ls k no_line).arrival (get_or ls k no_line).body (admit_all t ls k m)
unfolding admit_all
admit-next t ls k m = ap (λ (j : ℕ). admit_all t ls j m) (add-one k)

module _ (s : State) (ls : List Line) (k : ℕ) (now : State) (inv : now ≡ admitted k ls s) where
  -- what is admitted next is the next line
  pub admitted-more : (x : Arrival) (body : List ℕ) (after : State) → record { arrival = x; body = body } ≡ get_or ls k no_line → after ≡ admit_one k x body now → after ≡ admitted (k + 1) ls s
  admitted-more x body after e f =
      f ∙ (ap (λ (z : State). admit_one k x body z) inv
      ∙ (ap (λ (l : Line). admit_one k l.arrival l.body (admitted k ls s)) e
      ∙ ap (λ (m : Mem). with s m) (sym (admit-next s.slots ls k s.mem))))

  pub away_here : (x : Arrival) (body : List ℕ) (r : Bool) → record { arrival = x; body = body } ≡ get_or ls k no_line → r ≡ turned_away now.mem x → r ≡ away s.slots ls s.mem k
  away_here x body r e f =
      f ∙ (ap (λ (z : State). turned_away z.mem x) inv ∙ ap (λ (l : Line). turned_away (admit_all s.slots ls k s.mem) l.arrival) e)

  pub good_now : Good s → Bring s.lines ls → k ≤ s.lines → Good now
  good_now g b h = subst (λ (z : State). Good z) (sym inv) (admit_all_good s s.slots ls k g b h)

  pub brings_now : (x : Arrival) (body : List ℕ) → record { arrival = x; body = body } ≡ get_or ls k no_line → Bring s.lines ls → k < s.lines → Brings now.lines x body
  brings_now x body e b h =
      subst (λ (z : State). Brings z.lines x body) (sym inv)
      (subst (λ (l : Line). Brings s.lines l.arrival l.body) (sym e) (bring_at s.lines ls k b h))

-- a flag more
pub flags_more : (f : ℕ → Bool) (flags : List Bool) (k : ℕ) (r : Bool) → length flags ≡ 32 → k < 32 → r ≡ f k → ((i : ℕ) → i < k → get_or flags i false ≡ f i) → (length (set flags k r) ≡ 32) × ((i : ℕ) → i < k + 1 → get_or (set flags k r) i false ≡ f i)
flags_more f flags k r l h e inv = (
  length-set flags k r ∙ l,
  λ i j.
      elim (cases_eq i k) [
        | inl q ↦ subst (λ (z : ℕ). get_or (set flags k r) z false ≡ f z) (sym q) (get_or-set_same flags k r false (omega arith) ∙ e)
        | inr ne ↦ get_or-set_other flags k i r false ne ∙ inv i (omega arith)
      ],
)

-- nothing has left yet
pub departed-none : (s : State) → s ≡ departed 0 s
unfolding depart_all
departed-none s = refl

pub departures-none : (m : Mem) (w : Draft) → w ≡ appended (leaving_all (departures 0 m)) w
unfolding departures
departures-none m w = no_departures w

depart-next : (k : ℕ) (m : Mem) → depart_all (k + 1) m ≡ depart_one k (depart_all k m)
unfolding depart_all
depart-next k m = ap (λ (j : ℕ). depart_all j m) (add-one k)

departures-next : (k : ℕ) (m : Mem) → departures (k + 1) m ≡ departures k m ++ (departure_of k (depart_all k m) ∷ [])
unfolding departures
departures-next k m = ap (λ (j : ℕ). departures j m) (add-one k)

module _ (s : State) (k : ℕ) (now : State) (inv : now ≡ departed k s) where
  pub departed-more : (after : State) → after ≡ departing k now → after ≡ departed (k + 1) s
  departed-more after f =
      f ∙ (ap (λ (z : State). departing k z) inv ∙ ap (λ (m : Mem). with s m) (sym (depart-next k s.mem)))

  pub departures-more : (w before last : Draft) → before ≡ appended (leaving_all (departures k s.mem)) w →
      last ≡ appended (leaving (departure_of k now.mem)) before → last ≡ appended (leaving_all (departures (k + 1) s.mem)) w
  departures-more w before last e f =
      let d = ap (λ (z : State). departure_of k z.mem) inv in
      departure_more w before last (departures k s.mem) (departure_of k (depart_all k s.mem)) e (f ∙ ap (λ (x : Departure). appended (leaving x) before) d)
      ∙ ap (λ (ds : List Departure). appended (leaving_all ds) w) (sym (departures-next k s.mem))

  pub good_departed : Good s → k ≤ s.lines → Good now
  good_departed g h = subst (λ (z : State). Good z) (sym inv) (depart_all_good s k g h)

-- the flags of the first n inputs
pub flags_all : (f : ℕ → Bool) (flags : List Bool) (n : ℕ) → length flags ≡ 32 → n ≤ 32 → ((i : ℕ) → i < n → get_or flags i false ≡ f i) → take n flags ≡ map f (range_with_len 0 n)
flags_all f flags n l h e =
    fill_by_all f (take n flags) n false (length-take-le n flags (omega arith)) (λ k j. get_or-take n flags k false j ∙ e k j)
