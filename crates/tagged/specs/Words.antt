-- Tagged words and lines of four, and the number of each state.
use Rattle.std.specs.Prelude.{ℕ, ◌%◌, [], ◌∷◌, slice_index, slice_index_or, slice_set}
use Rattle.tagged.specs.declared.words.Line.{Line}
use Rattle.tagged.specs.declared.words.Word.{Word}
use Rattle.tagged.specs.declared.words.WordState.{WordState}
use Rattle.tagged.specs.declared.words.WordState.TheVariants.{Empty, Full}

abbrev pub state_number : WordState → ℕ
state_number Empty = 0
state_number Full = 1

-- the word at place w mod 4
abbrev pub word_at : Line → ℕ → Word
word_at l w = record { value = slice_index l.values (w % 4); state = slice_index_or l.states (w % 4) Empty }

-- the line with another word at place w mod 4
abbrev pub with_word : Line → ℕ → Word → Line
with_word l w new = record { values = slice_set l.values (w % 4) new.value; states = slice_set l.states (w % 4) new.state }

-- four empty zeros
abbrev pub blank : Line
blank = record { values = 0 ∷ 0 ∷ 0 ∷ 0 ∷ []; states = Empty ∷ Empty ∷ Empty ∷ Empty ∷ [] }
