-- The kinds of words.
use Rattle.std.specs.Prelude.{ℕ, cond, List, [], ◌∷◌, ◌==◌}
use Rattle.words.specs.declared.read.Kind.{Kind}
use Rattle.words.specs.declared.read.Kind.TheVariants.{Settings, Slot, Choice, Unknown}
use Rattle.words.specs.Numbers.{settings_kind, slot_kind, choice_kind}

-- the kind of a word, by its first byte; the empty word has none
abbrev pub kind_of : List ℕ → Kind
kind_of [] = Unknown
kind_of (b ∷ bytes) =
    cond (b == settings_kind) Settings (cond (b == slot_kind) Slot (cond (b == choice_kind) Choice Unknown))
