-- A stream that comes by pieces: what was served of it, and what is pending.
use Rattle.std.proofs.Common.{◌≡◌, ℕ, List, [], ◌++◌, map, None, Ok, sym, refl, ap, ◌∙◌, subst, append_assoc, append-nil}
use Rattle.std.proofs.lemmas.List.{map-append}
use Rattle.frames.specs.Streams.{Split}
use Rattle.frames.specs.Laws.{then_split}
use Rattle.frames.specs.Hex.{lines, next_line}
use Rattle.frames.proofs.Frames.{frames-split}
use Rattle.frames.proofs.Lines.{lines_split}
use Rattle.switch.specs.Respond.{Status}
use Rattle.serve.specs.declared.form.Form.{Form}
use Rattle.serve.specs.declared.form.Form.TheVariants.{Frames, Lines}
use Rattle.serve.specs.Form.{spelled, cut, ending, whole_words}
use Rattle.serve.specs.Served.{Served, word_of}
use Rattle.serve.specs.Serving.{Serving, SameServer, ServesUpTo, Takes}
use Rattle.serve.proofs.Turns.{same-refl, same_then, served-none, served-append}
use Rattle.serve.proofs.Loops.{cut-none}

-- whole words are cut by pieces as they come
pub cut_pieces : (form : Form) (bytes more : List ℕ) → cut form (bytes ++ more) ≡ then_split (cut form bytes) (cut form ((cut form bytes).1 ++ more))
cut_pieces Frames bytes more = frames-split.1 bytes more
cut_pieces Lines bytes more =
    ap (λ (s : Split). (map word_of s.0, s.1)) (lines_split.1 bytes more)
    ∙ ap (λ ws. (ws, (lines ((lines bytes).1 ++ more)).1)) (map-append word_of (lines bytes).0 (lines ((lines bytes).1 ++ more)).0)

next_nothing : next_line [] ≡ None
unfolding next_line
next_nothing = refl

pub cut_nothing : (form : Form) → cut form [] ≡ ([], [])
cut_nothing Frames = cut-none Frames [] refl
cut_nothing Lines = cut-none Lines [] next_nothing

-- what came so far is served, and what begins no whole word is pending
pub record Fed {S : Type 0} (shows : S → Status → Type 0) (input rest pending : List ℕ) (was is : Serving S) : Type 0 where
  pub front : List ℕ
  pub parts : input ≡ front ++ rest
  pub kept : pending ≡ (cut was.form front).1
  pub same : SameServer was is
  pub served : Served shows (spelled was.form) (cut was.form front).0 was.switch is.switch was.answers is.answers

module _ {S : Type 0} (shows : S → Status → Type 0) (input : List ℕ) (was : Serving S) where
  pub fed_none : Fed shows input input [] was was
  fed_none =
      record {
        front = [];
        parts = refl;
        kept = sym (ap (λ (s : Split). s.1) (cut_nothing was.form));
        same = same-refl was;
        served = subst (λ ws. Served shows (spelled was.form) ws was.switch was.switch was.answers was.answers) (sym (ap (λ (s : Split). s.0) (cut_nothing was.form))) (served-none shows (spelled was.form) was.switch was.answers);
      }

  module _ (rest pending : List ℕ) (is : Serving S) (f : Fed shows input rest pending was is) where
    pub fed-more :
        (piece behind left : List ℕ) (then : Serving S) →
        rest ≡ piece ++ behind →
        Takes {E = Unit {0}} (Ok tt) (λ was input r is. ServesUpTo r shows (cut was.form input) input was is) is then (pending ++ piece) left →
        Fed shows input behind left was then
    fed-more piece behind left then r t =
        let s = t.1 in
        let k : left ≡ (cut is.form (pending ++ piece)).1 = t.2 ∙ s.1.1.rest in
        let split : cut was.form (f.front ++ piece) ≡ then_split (cut was.form f.front) (cut is.form (pending ++ piece)) =
        cut_pieces was.form f.front piece
        ∙ ap (λ z. then_split (cut was.form f.front) (cut was.form (z ++ piece))) (sym f.kept)
        ∙ ap (λ (form : Form). then_split (cut was.form f.front) (cut form (pending ++ piece))) (sym f.same.form) in
        record {
          front = f.front ++ piece;
          parts = f.parts ∙ ap (λ z. f.front ++ z) r ∙ sym (append_assoc f.front piece behind);
          kept = k ∙ sym (ap (λ (z : Split). z.1) split);
          same = same_then was is then f.same s.0;
          served = subst (λ ws. Served shows (spelled was.form) ws was.switch then.switch was.answers then.answers) (sym (ap (λ (z : Split). z.0) split))
              (served-append shows (spelled was.form) (cut was.form f.front).0 (cut is.form (pending ++ piece)).0 was.switch is.switch then.switch was.answers is.answers then.answers f.served
              (subst (λ (form : Form). Served shows (spelled form) (cut is.form (pending ++ piece)).0 is.switch then.switch is.answers then.answers) f.same.form s.1.0));
        }

    pub fed-all :
        (then : Serving S) →
        rest ≡ [] →
        SameServer is then × Served shows (spelled is.form) (ending is.form pending) is.switch then.switch is.answers then.answers →
        Served shows (spelled was.form) (whole_words was.form input) was.switch then.switch was.answers then.answers
    fed-all then e s =
        let whole : f.front ≡ input = sym (f.parts ∙ ap (λ z. f.front ++ z) e ∙ append-nil f.front) in
        let end : ending is.form pending ≡ ending was.form (cut was.form f.front).1 =
        ap (λ (form : Form). ending form pending) f.same.form ∙ ap (ending was.form) f.kept in
        subst (λ z. Served shows (spelled was.form) (whole_words was.form z) was.switch then.switch was.answers then.answers) whole
        (served-append shows (spelled was.form) (cut was.form f.front).0 (ending was.form (cut was.form f.front).1) was.switch is.switch then.switch was.answers is.answers then.answers f.served
        (subst (λ ws. Served shows (spelled was.form) ws is.switch then.switch is.answers then.answers) end
        (subst (λ (form : Form). Served shows (spelled form) (ending is.form pending) is.switch then.switch is.answers then.answers) f.same.form s.1)))
