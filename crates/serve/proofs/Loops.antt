-- The loop: how far a stream is served, when it is all served, and where memory gives out.
use Rattle.std.proofs.Common.{◌≡◌, ℕ, ◌+◌, ◌-◌, ◌*◌, ◌≤◌, eqb, List, [], ◌∷◌, ◌++◌, map, length, take, drop, Some, None, sym, refl, ap, ◌∙◌, subst, inl, inr, append_assoc, append-nil, arith}
use Rattle.std.proofs.lemmas.List.{length-append, drop_at, take-append-drop}
use Rattle.std.proofs.lemmas.Bool.{cases_Bool}
use Rattle.frames.specs.Streams.{Taken, Split}
use Rattle.frames.specs.Frames.{byte_values, next_frame}
use Rattle.frames.specs.Hex.{line_feed, next_line}
use Rattle.frames.proofs.Frames.{taken_is, frames-none, frames-some}
use Rattle.frames.proofs.Lines.{longer-is, lines_none, lines-some, line_ends, line_goes_on}
use Rattle.switch.specs.Respond.{Status}
use Rattle.serve.specs.declared.form.Form.{Form}
use Rattle.serve.specs.declared.form.Form.TheVariants.{Frames, Lines}
use Rattle.serve.specs.Form.{spelled, taken as taken_by, word_in, cut}
use Rattle.serve.specs.Served.{Served, Stopped, Used, word_of}
use Rattle.serve.specs.Serving.{Serving, SameServer}
use Rattle.serve.proofs.Turns.{same-refl, same_then, served-none, served-append, stopped-behind, stopped-before}

-- what was taken stands in front of what is behind it
abbrev pub Behind : List ℕ → List ℕ → Type 0
Behind bytes rest = (front : List ℕ) × (bytes ≡ front ++ rest)

behind_frame : (bytes w rest : List ℕ) → next_frame bytes ≡ Some (w, rest) → Behind bytes rest
behind_frame [] w rest e = absurd (grind arith)
behind_frame (high ∷ []) w rest e = absurd (grind arith)
behind_frame (high ∷ low ∷ bytes) w rest e =
    let n : ℕ = high * byte_values + low in
    let t = taken_is n bytes (w, rest) e in
    (high ∷ low ∷ take n bytes, ap (λ z. high ∷ low ∷ z) (sym (take-append-drop n bytes) ∙ ap (λ z. take n bytes ++ z) (sym t.2)))

behind_line : (bytes w rest : List ℕ) → next_line bytes ≡ Some (w, rest) → Behind bytes rest
unfolding next_line
behind_line [] w rest e = absurd (grind arith)
behind_line (c ∷ cs) w rest e =
    elim (cases_Bool (eqb c line_feed)) [
      | inl t ↦ let s : ◌≡◌ {A = Taken} (Some ([], cs)) (Some (w, rest)) = sym (line_ends c cs t) ∙ e in
          let d : cs ≡ rest = grind arith in (c ∷ [], ap (λ z. c ∷ z) d)
      | inr f ↦ let q = longer-is c (next_line cs) (w, rest) (sym (line_goes_on c cs f) ∙ e) in
          let b = behind_line cs q.0.0 q.0.1 q.1 in
          (c ∷ b.0, ap (λ z. c ∷ z) (b.1 ∙ ap (λ (p : List ℕ × List ℕ). b.0 ++ p.1) (sym q.2)))
    ]

-- one word is taken from the start of the bytes, or none can be
pub record Cut (form : Form) (bytes w rest : List ℕ) : Type 0 where
  pub words : (cut form bytes).0 ≡ w ∷ (cut form rest).0
  pub left : (cut form bytes).1 ≡ (cut form rest).1
  pub behind : Behind bytes rest

pub cut-some : (form : Form) (bytes w rest : List ℕ) → taken_by form bytes ≡ Some (w, rest) → Cut form bytes (word_in form w) rest
cut-some Frames bytes w rest e =
    let s = frames-some bytes w rest e in
    record { words = ap (λ (z : Split). z.0) s; left = ap (λ (z : Split). z.1) s; behind = behind_frame bytes w rest e }
cut-some Lines bytes w rest e =
    let s = lines-some bytes w rest e in
    record {
      words = ap (λ (z : Split). map word_of z.0) s;
      left = ap (λ (z : Split). z.1) s;
      behind = behind_line bytes w rest e;
    }

pub cut-none : (form : Form) (bytes : List ℕ) → taken_by form bytes ≡ None → cut form bytes ≡ ([], bytes)
cut-none Frames bytes e = frames-none bytes e
cut-none Lines bytes e = ap (λ (z : Split). (map word_of z.0, z.1)) (lines_none bytes e)

-- so far the input is served up to the rest
pub record Going {S : Type 0} (shows : S → Status → Type 0) (input rest : List ℕ) (was is : Serving S) : Type 0 where
  pub told : List (List ℕ)
  pub words : (cut was.form input).0 ≡ told ++ (cut was.form rest).0
  pub left : (cut was.form input).1 ≡ (cut was.form rest).1
  pub behind : Behind input rest
  pub same : SameServer was is
  pub served : Served shows (spelled was.form) told was.switch is.switch was.answers is.answers

module _ {S : Type 0} (shows : S → Status → Type 0) where
  pub going_none : (input : List ℕ) (b : Serving S) → Going shows input input b b
  going_none input b =
      record {
        told = [];
        words = refl;
        left = refl;
        behind = ([], refl);
        same = same-refl b;
        served = served-none shows (spelled b.form) b.switch b.answers;
      }

  module _ (input rest : List ℕ) (was is : Serving S) (g : Going shows input rest was is) where
    -- the next word, in the form that the server has had all along
    next_cut : (w next : List ℕ) → taken_by is.form rest ≡ Some (w, next) → Cut was.form rest (word_in was.form w) next
    next_cut w next e =
        cut-some was.form rest w next (subst (λ (f : Form). taken_by f rest ≡ Some (w, next)) g.same.form e)

    pub going_more :
        (w next : List ℕ) (then : Serving S) →
        taken_by is.form rest ≡ Some (w, next) →
        SameServer is then × Served shows (spelled is.form) (word_in is.form w ∷ []) is.switch then.switch is.answers then.answers →
        Going shows input next was then
    going_more w next then e s =
        let k = next_cut w next e in
        record {
          told = g.told ++ word_in was.form w ∷ [];
          words = g.words ∙ ap (λ z. g.told ++ z) k.words ∙ sym (append_assoc g.told (word_in was.form w ∷ []) (cut was.form next).0);
          left = g.left ∙ k.left;
          behind = (
            g.behind.0 ++ k.behind.0,
            g.behind.1 ∙ ap (λ z. g.behind.0 ++ z) k.behind.1 ∙ sym (append_assoc g.behind.0 k.behind.0 next),
          );
          same = same_then was is then g.same s.0;
          served = served-append shows (spelled was.form) g.told (word_in was.form w ∷ []) was.switch is.switch then.switch was.answers is.answers then.answers g.served
              (subst (λ (f : Form). Served shows (spelled f) (word_in f w ∷ []) is.switch then.switch is.answers then.answers) g.same.form s.1);
        }

    pub going-stops :
        (w next : List ℕ) (then : Serving S) →
        taken_by is.form rest ≡ Some (w, next) →
        SameServer is then × Stopped shows (spelled is.form) (word_in is.form w ∷ []) is.switch then.switch is.answers then.answers →
        SameServer was then × Stopped shows (spelled was.form) (cut was.form input).0 was.switch then.switch was.answers then.answers
    going-stops w next then e s =
        let k = next_cut w next e in
        let one : List (List ℕ) = word_in was.form w ∷ [] in (
          same_then was is then g.same s.0,
          subst (λ z. Stopped shows (spelled was.form) z was.switch then.switch was.answers then.answers)
              (sym (g.words ∙ ap (λ z. g.told ++ z) k.words ∙ sym (append_assoc g.told one (cut was.form next).0)))
              (stopped-before shows (spelled was.form) (g.told ++ one) (cut was.form next).0 was.switch then.switch was.answers then.answers
              (stopped-behind shows (spelled was.form) g.told one was.switch is.switch then.switch was.answers is.answers then.answers g.served
              (subst (λ (f : Form). Stopped shows (spelled f) (word_in f w ∷ []) is.switch then.switch is.answers then.answers) g.same.form s.1))),
        )

    pub going-ends :
        taken_by is.form rest ≡ None →
        SameServer was is × (Served shows (spelled was.form) (cut was.form input).0 was.switch is.switch was.answers is.answers × Used (length input - length rest) input (cut was.form input).1)
    going-ends none =
        let e = cut-none was.form rest (subst (λ (f : Form). taken_by f rest ≡ None) g.same.form none) in
        let words : (cut was.form input).0 ≡ g.told = g.words ∙ ap (λ (z : Split). g.told ++ z.0) e ∙ append-nil g.told in
        let left : (cut was.form input).1 ≡ rest = g.left ∙ ap (λ (z : Split). z.1) e in
        let long = ap length g.behind.1 ∙ length-append g.behind.0 rest in (
          g.same,
          (
            subst (λ z. Served shows (spelled was.form) z was.switch is.switch was.answers is.answers) (sym words) g.served,
            subst (Used (length input - length rest) input) (sym left) record {
              rest = ap (drop (length input - length rest)) g.behind.1 ∙ drop_at g.behind.0 rest (length input - length rest) (omega arith);
              size = omega arith;
            },
          ),
        )

    pub going_within : length rest ≤ length input
    going_within = let long = ap length g.behind.1 ∙ length-append g.behind.0 rest in omega arith
