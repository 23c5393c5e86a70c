-- Lines and their words: what a changed word leaves.
use Rattle.std.proofs.Common.{◌≡◌, ℕ, ◌%◌, ◌⊎◌, arith}
use Rattle.std.proofs.lemmas.Bool.Decides.{nat_tests}
use Rattle.tagged.specs.declared.words.Word.{Word}
use Rattle.promises.specs.Board.{Content, word_in, with_word_in, line_of}
use Rattle.promises.specs.Steps.{updated}
use Rattle.promises.specs.OneMemory.{line_by_words}

pub updated_same : {A : Type 0} (f : ℕ → A) (k : ℕ) (x : A) → updated f k x k ≡ x
updated_same f k x = grind (arith, nat_tests)

pub updated_other : {A : Type 0} (f : ℕ → A) (k j : ℕ) (x : A) → (j ≡ k → ⊥) → updated f k x j ≡ f j
updated_other f k j x ne = grind (arith, nat_tests)

-- putting back what is there changes nothing
pub updated_back : {A : Type 0} (f : ℕ → A) (k : ℕ) (x : A) → x ≡ f k → updated f k x ≡ f
updated_back f k x e = λ i j. at j i
  where
    at : (j : ℕ) → updated f k x j ≡ f j
    at j = grind (arith, nat_tests)

-- what holds of every value holds still, if it holds of the new one
pub updated_each : {A : Type 0} (P : ℕ → A → Type 0) (f : ℕ → A) (k : ℕ) (x : A) → (P k (f k) → P k x) → (j : ℕ) → P j (f j) → P j (updated f k x j)
updated_each P f k x new j h = grind (arith, nat_tests)

-- the four places of a line
places : (w : ℕ) → (w % 4 ≡ 0) ⊎ ((w % 4 ≡ 1) ⊎ ((w % 4 ≡ 2) ⊎ (w % 4 ≡ 3)))
places w = grind arith

-- word w of a memory is in its line at its place
pub line_word : (f : ℕ → Word) (w : ℕ) → word_in (line_by_words f (line_of w)) w ≡ f w
unfolding word_in
line_word f w = grind (arith, places w)

-- the line of a memory's words is the memory's line
pub opening_line : (f : ℕ → Content) (n : ℕ) → f n ≡ line_by_words (λ w. word_in (f (line_of w)) w) n
unfolding word_in
opening_line f n = grind arith

-- putting back a line's own word changes nothing, and a word that was put is read back
pub put_same : (f : Content) (w : ℕ) → with_word_in f w (word_in f w) ≡ f
unfolding word_in with_word_in
put_same f w = grind (arith, places w)

pub word_put : (f : Content) (w : ℕ) (x : Word) → word_in (with_word_in f w x) w ≡ x
unfolding word_in with_word_in
word_put f w x = grind (arith, places w)

-- a changed word changes its line, and no other
pub line_put : (f : ℕ → Word) (w : ℕ) (x : Word) → line_by_words (updated f w x) (line_of w) ≡ with_word_in (line_by_words f (line_of w)) w x
unfolding with_word_in
line_put f w x = grind (arith, nat_tests, places w)

pub line_kept : (f : ℕ → Word) (w n : ℕ) (x : Word) → (n ≡ line_of w → ⊥) → line_by_words (updated f w x) n ≡ line_by_words f n
line_kept f w n x ne = grind (arith, nat_tests)

-- a memory in which word w is changed by g, and its lines
abbrev pub changed : (ℕ → Word) → (Word → Word) → ℕ → ℕ → Word
changed T g w = updated T w (g (T w))

module _ (T : ℕ → Word) (g : Word → Word) (w : ℕ) where
  -- a copy of the line is changed as the line is
  pub changed_content : (f : Content) → f ≡ line_by_words T (line_of w) → with_word_in f w (g (word_in f w)) ≡ line_by_words (changed T g w) (line_of w)
  changed_content f e = grind (arith, line_word T w, line_put T w (g (T w)))

  pub changed_other : (m : ℕ) → (m ≡ line_of w → ⊥) → line_by_words (changed T g w) m ≡ line_by_words T m
  changed_other m ne = line_kept T w m (g (T w)) ne
