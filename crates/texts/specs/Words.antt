-- The words of a text: the longest runs of bytes that are no white space.
use Rattle.std.specs.Prelude.{ℕ, Bool, true, cond, ◌||◌, List, [], ◌∷◌, ◌==◌}

-- white space: space, tab, line feed, carriage return
abbrev pub is_blank : ℕ → Bool
is_blank b = b == 32 || (b == 9 || (b == 10 || b == 13))

-- whether a text begins with white space or is at its end
abbrev pub begins_blank : List ℕ → Bool
begins_blank [] = true
begins_blank (b ∷ bs) = is_blank b

-- a byte put before the first word
abbrev pub before_first : ℕ → List (List ℕ) → List (List ℕ)
before_first b [] = (b ∷ []) ∷ []
before_first b (w ∷ ws) = (b ∷ w) ∷ ws

-- white space is in no word; any other byte is a word where white space follows it, and else begins the word that follows
abbrev pub words : List ℕ → List (List ℕ)
words [] = []
words (b ∷ bs) = cond (is_blank b) (words bs) (cond (begins_blank bs) ((b ∷ []) ∷ words bs) (before_first b (words bs)))
