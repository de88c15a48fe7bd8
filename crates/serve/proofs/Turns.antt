-- A word served, and words served one after the other.
use Rattle.std.proofs.Common.{◌≡◌, ℕ, cond, List, [], ◌∷◌, ◌++◌, length, take, is_ok, Ok, Err, Result, sym, refl, ap, ◌∙◌, subst, append_assoc, append-nil, arith, MatchResult}
use Rattle.std.specs.List.{flat_map}
use Rattle.std.proofs.lemmas.List.{length-append, take-append-le}
use Rattle.words.specs.Writing.{Draft}
use Rattle.switch.specs.Respond.{Status, respond}
use Rattle.switch.specs.Promise.{Answers}
use Rattle.serve.specs.declared.form.Form.{Form}
use Rattle.serve.specs.Form.{spelled}
use Rattle.serve.specs.Served.{after, given, Served, Stopped}
use Rattle.serve.specs.Serving.{Serving, Serves, SameServer}
use Rattle.serve.proofs.Words.{after-append, after_none, after_one, answers_none, answers_one, written-append}

-- what an answer that is there, or is not, adds
pub given-some : (spell : List ℕ → List ℕ) (a : List ℕ) → (length a ≡ 0 → ⊥) → flat_map spell (given a) ≡ spell a
given-some spell [] h = absurd (h refl)
given-some spell (b ∷ bs) h = append-nil (spell (b ∷ bs))

pub given-none : (spell : List ℕ → List ℕ) (a : List ℕ) → length a ≡ 0 → flat_map spell (given a) ≡ []
given-none spell [] h = refl
given-none spell (b ∷ bs) h = absurd (omega arith)

module _ {S : Type 0} (shows : S → Status → Type 0) (spell : List ℕ → List ℕ) where
  pub served-none : (b : S) (out : List ℕ) → Served shows spell [] b b out out
  served-none b out =
      record {
        shown = λ st h. subst (shows b) (sym (after_none st)) h;
        answers = λ st h. sym (append-nil out) ∙ ap (λ z. out ++ flat_map spell z) (sym (answers_none st));
      }

  -- one after the other
  pub served-append :
      (ws vs : List (List ℕ)) (a b c : S) (out between written : List ℕ) →
      Served shows spell ws a b out between →
      Served shows spell vs b c between written → Served shows spell (ws ++ vs) a c out written
  served-append ws vs a b c out between written s t =
      record {
        shown = λ st h. subst (shows c) (sym (after-append st ws vs)) (t.shown (after st ws) (s.shown st h));
        answers = λ st h. written-append spell st ws vs out between written (s.answers st h) (t.answers (after st ws) (s.shown st h));
      }

  -- memory gave out among the later words
  pub stopped-behind :
      (ws vs : List (List ℕ)) (a b c : S) (out between written : List ℕ) →
      Served shows spell ws a b out between →
      Stopped shows spell vs b c between written → Stopped shows spell (ws ++ vs) a c out written
  stopped-behind ws vs a b c out between written s t =
      record {
        told = ws ++ t.told;
        untold = t.untold;
        more = t.more;
        parts = ap (λ z. ws ++ z) t.parts ∙ sym (append_assoc ws t.told t.untold);
        few = t.few;
        there = t.there;
        shown = λ st h.
            subst (shows c)
            (sym (ap (after st) (append_assoc ws t.told (take t.more t.untold)) ∙ after-append st ws (t.told ++ take t.more t.untold)))
            (t.shown (after st ws) (s.shown st h));
        answers = λ st h. written-append spell st ws t.told out between written (s.answers st h) (t.answers (after st ws) (s.shown st h));
      }

  -- memory gave out before the later words
  pub stopped-before :
      (ws vs : List (List ℕ)) (a b : S) (out written : List ℕ) →
      Stopped shows spell ws a b out written → Stopped shows spell (ws ++ vs) a b out written
  stopped-before ws vs a b out written s =
      record {
        told = s.told;
        untold = s.untold ++ vs;
        more = s.more;
        parts = ap (λ z. z ++ vs) s.parts ∙ append_assoc s.told s.untold vs;
        few = s.few;
        there = omega (arith, s.there, length-append s.untold vs);
        shown = λ st h.
            subst (λ z. shows b (after st (s.told ++ z))) (sym (take-append-le s.more s.untold vs s.there)) (s.shown st h);
        answers = s.answers;
      }

  -- memory gave out before the first word was taken
  pub stopped_at_once : (ws : List (List ℕ)) (b : S) (out : List ℕ) → Stopped shows spell ws b b out out
  stopped_at_once ws b out =
      record {
        told = [];
        untold = ws;
        more = 0;
        parts = refl;
        few = omega arith;
        there = omega arith;
        shown = λ st h. subst (shows b) (sym (after_none st)) h;
        answers = λ st h. sym (append-nil out) ∙ ap (λ z. out ++ flat_map spell z) (sym (answers_none st));
      }

  -- one word
  module _
      (w out : List ℕ) (before told : Draft) (was is : S)
      (answers : (st : Status) → shows was st → Answers st w before told)
      (goes : (st : Status) → shows was st → shows is (respond st w).0) where
    shown-one : (st : Status) → shows was st → shows is (after st (w ∷ []))
    shown-one st h = subst (shows is) (sym (after_one st w)) (goes st h)

    pub served_silent : told.len ≡ 0 → Served shows spell (w ∷ []) was is out out
    served_silent e =
        record {
          shown = shown-one;
          answers = λ st h.
              sym (append-nil out)
              ∙ ap (λ z. out ++ z) (sym (given-none spell (respond st w).1 (sym (answers st h).size ∙ e)))
              ∙ ap (λ z. out ++ flat_map spell z) (sym (answers_one st w));
        }

    pub served-one : (told.len ≡ 0 → ⊥) → (written : List ℕ) → written ≡ out ++ spell (take told.len told.bytes) → Served shows spell (w ∷ []) was is out written
    served-one ne written e =
        record {
          shown = shown-one;
          answers = λ st h.
              e ∙ ap (λ z. out ++ spell z) (answers st h).bytes
              ∙ ap (λ z. out ++ z) (sym (given-some spell (respond st w).1 (λ z. ne ((answers st h).size ∙ z))))
              ∙ ap (λ z. out ++ flat_map spell z) (sym (answers_one st w));
        }

    pub stopped_one : (written : List ℕ) → written ≡ out → Stopped shows spell (w ∷ []) was is out written
    stopped_one written e =
        record {
          told = [];
          untold = w ∷ [];
          more = 1;
          parts = refl;
          few = omega arith;
          there = omega arith;
          shown = shown-one;
          answers = λ st h. e ∙ sym (append-nil out) ∙ ap (λ z. out ++ flat_map spell z) (sym (answers_none st));
        }

    -- as the call that writes the answer says it
    pub wrote_one :
        {E : Type 0} (result : Result (Unit {0}) E) (written : List ℕ) →
        (told.len ≡ 0 → ⊥) →
        written ≡ cond (is_ok result) (out ++ spell (take told.len told.bytes)) out →
        MatchResult result (λ _. Served shows spell (w ∷ []) was is out written) (λ _. Stopped shows spell (w ∷ []) was is out written)
    wrote_one (Ok x) written ne e = served-one ne written e
    wrote_one (Err x) written ne e = stopped_one written e

pub same-refl : {S : Type 0} (s : Serving S) → SameServer s s
same-refl s = record { lender = refl; form = refl }

pub same_then : {S : Type 0} (a b c : Serving S) → SameServer a b → SameServer b c → SameServer a c
same_then a b c s t = record { lender = t.lender ∙ s.lender; form = t.form ∙ s.form }

-- one server's words behind another's, in the form that stays
module _ {S : Type 0} (shows : S → Status → Type 0) (was between is : Serving S) (ws vs : List (List ℕ)) (s : SameServer was between × Served shows (spelled was.form) ws was.switch between.switch was.answers between.answers) where
  pub serves-append :
      {E : Type 0} (r : Result (Unit {0}) E) → Serves r shows vs between is → Serves r shows (ws ++ vs) was is
  serves-append (Ok x) t = (
    same_then was between is s.0 t.0,
    served-append shows (spelled was.form) ws vs was.switch between.switch is.switch was.answers between.answers is.answers s.1
        (subst (λ (f : Form). Served shows (spelled f) vs between.switch is.switch between.answers is.answers) s.0.form t.1),
  )
  serves-append (Err x) t = (
    same_then was between is s.0 t.0,
    stopped-behind shows (spelled was.form) ws vs was.switch between.switch is.switch was.answers between.answers is.answers s.1
        (subst (λ (f : Form). Stopped shows (spelled f) vs between.switch is.switch between.answers is.answers) s.0.form t.1),
  )
