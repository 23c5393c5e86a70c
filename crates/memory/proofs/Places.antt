-- Where things stand in a picture, and that lines and pictures give each other back.
use Rattle.std.proofs.Common.{◌≡◌, ℕ, zero, suc, ◌+◌, ◌-◌, ◌*◌, ◌/◌, ◌%◌, ◌^◌, ◌<◌, ◌≤◌, List, [], ◌∷◌, ◌++◌, map, length, get_or, sym, refl, ap, subst, ◌∙◌, ⊎_elim, append-nil, mul-suc, arith}
use Rattle.std.specs.List.{flat_map}
use Rattle.std.proofs.lemmas.Grind.{common_steps}
use Rattle.std.proofs.lemmas.List.FromFn.{length-map-range_with_len, get_or-map-range_with_len}
use Rattle.std.proofs.lemmas.List.{length-map, get_or-map, ext_get_or}
use Rattle.std.proofs.lemmas.Bool.{cases_lt}
use Rattle.tagged.specs.Words.{blank}
use Rattle.tagged.specs.declared.words.Line.{Line}
use Rattle.tagged.specs.declared.words.WordState.TheVariants.{Empty}
use Rattle.memory.proofs.Numbers.{number_of_bytes, bytes_of_number}
use Rattle.memory.proofs.States.{states_back, byte_back}
use Rattle.memory.specs.Pictures.{four_bytes, number_at, values_of, state_byte, picture, picture_length, values_from, state_place, line_at, lines_at, line_count, Proper, Sound}

-- how many lines are read from bytes, and the usual steps on lists
pub ruleset lines_read = (common_steps, length-map-range_with_len)

-- the pieces of a joined list, where each is of one length
module _ {X : Type 0} (f : X → List ℕ) (s : ℕ) (each : (x : X) → length (f x) ≡ s) where
  pub length_joined : (xs : List X) → length (flat_map f xs) ≡ s * length xs
  length_joined [] = grind arith
  length_joined (x ∷ xs) = grind (arith, common_steps, each, length_joined xs)

  pub joined_at : (xs : List X) (m j : ℕ) (d : X) → m < length xs → j < s → get_or (flat_map f xs) (s * m + j) 0 ≡ get_or (f (get_or xs m d)) j 0
  joined_at [] m j d h k = absurd (omega arith)
  joined_at (x ∷ xs) zero j d h k = grind (arith, common_steps, each x)
  joined_at (x ∷ xs) (suc m) j d h k = grind (arith, common_steps, each x, joined_at xs m j d, mul-suc s m)

-- an element of the second and of the third of three lists, with more after them
in_second : (a b c more : List ℕ) (n k p : ℕ) → length a ≡ n → k < length b → p ≡ n + k → get_or ((a ++ (b ++ c)) ++ more) p 0 ≡ get_or b k 0
in_second a b c more n k p long h is = grind (arith, common_steps)

in_third : (a b c more : List ℕ) (n k p : ℕ) → length a + length b ≡ n → k < length c → p ≡ n + k → get_or ((a ++ (b ++ c)) ++ more) p 0 ≡ get_or c k 0
in_third a b c more n k p long h is = grind (arith, common_steps)

-- a picture with more bytes after it
module _ (ls : List Line) (more : List ℕ) where
  length_words : length (flat_map values_of ls) ≡ 4 * length ls
  length_words = length_joined values_of 4 (λ _. refl) ls

  pub length_values : length (flat_map four_bytes (flat_map values_of ls)) ≡ 16 * length ls
  length_values = omega (arith, length_words, length_joined four_bytes 4 (λ _. refl) (flat_map values_of ls))

  pub length_picture : length (picture ls) ≡ picture_length (length ls)
  unfolding picture
  length_picture = grind (arith, common_steps, length_values)

  pub header_at : (k : ℕ) → k < 4 → get_or (picture ls ++ more) k 0 ≡ get_or (four_bytes (length ls)) k 0
  unfolding picture
  header_at k h = grind (arith, common_steps)

  -- byte i of value w of line m
  pub value_at : (m w i : ℕ) (d : Line) → m < length ls → w < 4 → i < 4 → get_or (picture ls ++ more) (values_from m + 4 * w + i) 0 ≡ get_or (four_bytes (get_or (values_of (get_or ls m d)) w 0)) i 0
  unfolding picture
  value_at m w i d h k j =
      in_second (four_bytes (length ls)) _ _ more 4 (4 * (4 * m + w) + i) _ refl (omega (arith, length_values)) (omega arith)
      ∙ joined_at four_bytes 4 (λ _. refl) (flat_map values_of ls) (4 * m + w) i 0 (omega (arith, length_words)) j
      ∙ ap (λ v. get_or (four_bytes v) i 0) (joined_at values_of 4 (λ _. refl) ls m w d h k)

  pub state_at : (m : ℕ) (d : Line) → m < length ls → get_or (picture ls ++ more) (state_place (length ls) m) 0 ≡ state_byte (get_or ls m d)
  unfolding picture
  state_at m d h =
      in_third (four_bytes (length ls)) _ (map state_byte ls) more (4 + 16 * length ls) m _ (omega (arith, length_values)) (omega (arith, length-map ls state_byte)) refl
      ∙ get_or-map state_byte ls m d 0 h

-- what holds of the header, of each byte of a value and of each state byte holds of each byte of a picture of n lines
pub each_place : (n : ℕ) (P : ℕ → Type 0) → ((k : ℕ) → k < 4 → P k) → ((m w i : ℕ) → m < n → w < 4 → i < 4 → P (values_from m + 4 * w + i)) → ((m : ℕ) → m < n → P (state_place n m)) → (k : ℕ) → k < picture_length n → P k
each_place n P header value state k h = ⊎_elim (header k) (λ past. ⊎_elim (in_values past) in_states (cases_lt k (4 + 16 * n))) (cases_lt k 4)
  where
    in_values : 4 ≤ k → k < 4 + 16 * n → P k
    in_values past lt =
        let e : values_from ((k - 4) / 16) + 4 * ((k - 4) / 4 % 4) + (k - 4) % 4 ≡ k = omega arith in
        subst P e (value ((k - 4) / 16) ((k - 4) / 4 % 4) ((k - 4) % 4) (omega arith) (omega arith) (omega arith))

    in_states : 4 + 16 * n ≤ k → P k
    in_states past =
        let e : state_place n (k - (4 + 16 * n)) ≡ k = omega arith in
        subst P e (state (k - (4 + 16 * n)) (omega arith))

abbrev pub Bytes : List ℕ → Type 0
Bytes bs = (k : ℕ) → get_or bs k 0 < 256

-- four bytes of a string are those of the number that they write
pub four_here : (bs : List ℕ) → Bytes bs → (p i : ℕ) → i < 4 → get_or (four_bytes (number_at bs p)) i 0 ≡ get_or bs (p + i) 0
four_here bs b p i h = ap (λ l. get_or l i 0) (bytes_of_number _ _ _ _ (b p) (b (p + 1)) (b (p + 2)) (b (p + 3))) ∙ at i h
  where
    at : (i : ℕ) → i < 4 → get_or (get_or bs p 0 ∷ get_or bs (p + 1) 0 ∷ get_or bs (p + 2) 0 ∷ get_or bs (p + 3) 0 ∷ []) i 0 ≡ get_or bs (p + i) 0
    at zero h = ap (λ k. get_or bs k 0) (omega arith)
    at (suc zero) h = refl
    at (suc (suc zero)) h = refl
    at (suc (suc (suc zero))) h = refl
    at (suc (suc (suc (suc i)))) h = absurd (omega arith)

-- and they write v where they are those of v
pub number_here : (bs : List ℕ) (p v : ℕ) → v < 2 ^ 32 → ((i : ℕ) → i < 4 → get_or bs (p + i) 0 ≡ get_or (four_bytes v) i 0) → number_at bs p ≡ v
number_here bs p v h each =
    let zeroth : get_or bs p 0 ≡ v % 256 = ap (λ k. get_or bs k 0) (omega arith) ∙ each 0 (omega arith) in
    rw (zeroth, each 1 (omega arith), each 2 (omega arith), each 3 (omega arith)) (number_of_bytes v h)

-- a list of four is known by its elements
four_of : {X : Type 0} (xs : List X) (d : X) → length xs ≡ 4 → get_or xs 0 d ∷ get_or xs 1 d ∷ get_or xs 2 d ∷ get_or xs 3 d ∷ [] ≡ xs
four_of xs d h = ext_get_or d _ xs (sym h) (λ k lt. grind (arith, common_steps))

pub four_are : {X : Type 0} (xs : List X) (d a b c e : X) → length xs ≡ 4 → get_or xs 0 d ≡ a → get_or xs 1 d ≡ b → get_or xs 2 d ≡ c → get_or xs 3 d ≡ e → xs ≡ a ∷ b ∷ c ∷ e ∷ []
four_are xs d a b c e long first second third fourth = sym (four_of xs d long) ∙ (λ i. first i ∷ second i ∷ third i ∷ fourth i ∷ [])

-- four values that fit are all values that there are
pub fits_from : (vs : List ℕ) → length vs ≡ 4 → get_or vs 0 0 < 2 ^ 32 → get_or vs 1 0 < 2 ^ 32 → get_or vs 2 0 < 2 ^ 32 → get_or vs 3 0 < 2 ^ 32 → (k : ℕ) → get_or vs k 0 < 2 ^ 32
fits_from vs long a b c d k = grind (arith, common_steps)

-- bytes that hold a line at place m of n read as that line
pub line_from : (n : ℕ) (bs : List ℕ) (m : ℕ) (l : Line) → Proper l → ((w : ℕ) → w < 4 → number_at bs (values_from m + 4 * w) ≡ get_or (values_of l) w 0) → get_or bs (state_place n m) 0 ≡ state_byte l → line_at n bs m ≡ l
line_from n bs m l p values state =
    let first : number_at bs (values_from m) ≡ get_or l.values 0 0 = ap (number_at bs) (omega arith) ∙ values 0 (omega arith) in
    let back = states_back (get_or l.states 0 Empty) (get_or l.states 1 Empty) (get_or l.states 2 Empty) (get_or l.states 3 Empty) in
    rw (first, values 1 (omega arith), values 2 (omega arith), values 3 (omega arith), state) (λ i. record {
      values = four_of l.values 0 p.values i;
      states = sym (four_are l.states Empty _ _ _ _ p.states (sym back.first) (sym back.second) (sym back.third) (sym back.fourth)) i;
    })

-- line m of a picture is the line that it was made of
pub line_back : (ls : List Line) (more : List ℕ) (d : Line) (m : ℕ) → m < length ls → Proper (get_or ls m d) → line_at (length ls) (picture ls ++ more) m ≡ get_or ls m d
line_back ls more d m h proper =
    line_from (length ls) (picture ls ++ more) m (get_or ls m d) proper
    (λ w k. number_here (picture ls ++ more) (values_from m + 4 * w) _ (small w k) (λ i j. value_at ls more m w i d h k j))
    (state_at ls more m d h)
  where
    small : (w : ℕ) → w < 4 → get_or (values_of (get_or ls m d)) w 0 < 2 ^ 32
    small zero h = proper.fits 0
    small (suc zero) h = proper.fits 1
    small (suc (suc zero)) h = proper.fits 2
    small (suc (suc (suc zero))) h = proper.fits 3
    small (suc (suc (suc (suc w)))) h = absurd (omega arith)

-- the lines of a picture are the lines that it was made of
pub lines_back : (ls : List Line) (more : List ℕ) (d : Line) → ((m : ℕ) → m < length ls → Proper (get_or ls m d)) → lines_at (length ls) (picture ls ++ more) ≡ ls
lines_back ls more d proper =
    let f = line_at (length ls) (picture ls ++ more) in
    let long = length-map-range_with_len f 0 (length ls) in
    ext_get_or d (lines_at (length ls) (picture ls ++ more)) ls long (λ m h. let lt : m < length ls = omega arith in get_or-map-range_with_len f 0 (length ls) m m d lt (omega arith) ∙ line_back ls more d m lt (proper m lt))

-- bytes that are read as n lines
module _ (n : ℕ) (bs : List ℕ) (b : Bytes bs) (d : Line) where
  lines_long : length (lines_at n bs) ≡ n
  lines_long = length-map-range_with_len (line_at n bs) 0 n

  line_of : (m : ℕ) → m < n → get_or (lines_at n bs) m d ≡ line_at n bs m
  line_of m h = get_or-map-range_with_len (line_at n bs) 0 n m m d h (omega arith)

  value_of : (m w : ℕ) → w < 4 → get_or (values_of (line_at n bs m)) w 0 ≡ number_at bs (values_from m + 4 * w)
  value_of m zero h = ap (number_at bs) (omega arith)
  value_of m (suc zero) h = refl
  value_of m (suc (suc zero)) h = refl
  value_of m (suc (suc (suc zero))) h = refl
  value_of m (suc (suc (suc (suc w)))) h = absurd (omega arith)

  -- byte k of the picture of those lines
  again_at : number_at bs 0 ≡ n → ((m : ℕ) → m < n → get_or bs (state_place n m) 0 ≤ 15) → (k : ℕ) → k < picture_length n → get_or (picture (lines_at n bs) ++ []) k 0 ≡ get_or bs k 0
  again_at count small = each_place n (λ k. get_or (picture (lines_at n bs) ++ []) k 0 ≡ get_or bs k 0) header value state
    where
      header : (k : ℕ) → k < 4 → get_or (picture (lines_at n bs) ++ []) k 0 ≡ get_or bs k 0
      header k h = header_at (lines_at n bs) [] k h ∙ ap (λ v. get_or (four_bytes v) k 0) (lines_long ∙ sym count) ∙ four_here bs b 0 k h ∙ ap (λ i. get_or bs i 0) (omega arith)

      value : (m w i : ℕ) → m < n → w < 4 → i < 4 → get_or (picture (lines_at n bs) ++ []) (values_from m + 4 * w + i) 0 ≡ get_or bs (values_from m + 4 * w + i) 0
      value m w i h k j =
          value_at (lines_at n bs) [] m w i d (omega (arith, lines_long)) k j
          ∙ ap (λ v. get_or (four_bytes v) i 0) (ap (λ l. get_or (values_of l) w 0) (line_of m h) ∙ value_of m w k)
          ∙ four_here bs b (values_from m + 4 * w) i j

      state : (m : ℕ) → m < n → get_or (picture (lines_at n bs) ++ []) (state_place n m) 0 ≡ get_or bs (state_place n m) 0
      state m h =
          ap (λ k. get_or (picture (lines_at n bs) ++ []) (state_place k m) 0) (sym lines_long)
          ∙ state_at (lines_at n bs) [] m d (omega (arith, lines_long))
          ∙ ap state_byte (line_of m h)
          ∙ byte_back (get_or bs (state_place n m) 0) (small m h)

  -- bytes that pass the check are the picture of the lines that they read as
  pub picture_back : number_at bs 0 ≡ n → length bs ≡ picture_length n → ((m : ℕ) → m < n → get_or bs (state_place n m) 0 ≤ 15) → picture (lines_at n bs) ≡ bs
  picture_back count long small =
      let made : length (picture (lines_at n bs)) ≡ picture_length n = length_picture (lines_at n bs) [] ∙ ap picture_length lines_long in
      ext_get_or 0 (picture (lines_at n bs)) bs (made ∙ sym long) (λ k h. ap (λ l. get_or l k 0) (sym (append-nil (picture (lines_at n bs)))) ∙ again_at count small k (omega arith))

-- a picture says how many lines it has
pub count_back : (ls : List Line) (more : List ℕ) → length ls < 2 ^ 32 → line_count (picture ls ++ more) ≡ length ls
count_back ls more h = number_here (picture ls ++ more) 0 (length ls) h (λ i lt. let e : 0 + i ≡ i = omega arith in ap (λ k. get_or (picture ls ++ more) k 0) e ∙ header_at ls more i lt)

-- the picture of lines passes the check
pub picture_sound : (ls : List Line) → 1 ≤ length ls → length ls ≤ 2048 → Sound (picture ls)
picture_sound ls some few =
    let count : line_count (picture ls) ≡ length ls = ap line_count (sym (append-nil (picture ls))) ∙ count_back ls [] (omega arith) in
    let long = length_picture ls [] in
    record {
      header = record { long = omega arith; some = omega arith; few = omega arith };
      long = long ∙ ap picture_length (sym count);
      states = λ k past lt.
          let m : k ≡ state_place (length ls) (k - (4 + 16 * length ls)) = omega arith in
          let l = get_or ls (k - (4 + 16 * length ls)) blank in
          let byte : get_or (picture ls) k 0 ≡ state_byte (get_or ls (k - (4 + 16 * length ls)) blank) = ap (λ i. get_or (picture ls) i 0) m ∙ ap (λ bs. get_or bs (state_place (length ls) (k - (4 + 16 * length ls))) 0) (sym (append-nil (picture ls))) ∙ state_at ls [] (k - (4 + 16 * length ls)) blank (omega arith) in
          let small = (states_back (get_or l.states 0 Empty) (get_or l.states 1 Empty) (get_or l.states 2 Empty) (get_or l.states 3 Empty)).small in
          omega arith;
    }
