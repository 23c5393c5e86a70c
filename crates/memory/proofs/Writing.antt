-- Writing one line of a picture, and a picture of blank lines.
use Rattle.std.proofs.Common.{◌≡◌, ℕ, zero, suc, ◌+◌, ◌-◌, ◌*◌, ◌<◌, ◌≤◌, List, [], ◌++◌, map, length, get_or, take, drop, set, replicate, sym, refl, ap, ◌∙◌, inl, inr, ⊎_elim, add_comm, mul-suc, arith}
use Rattle.std.specs.List.{flat_map}
use Rattle.std.proofs.lemmas.Grind.{common_steps}
use Rattle.std.proofs.lemmas.List.FromFn.{length-map-range_with_len, get_or-map-range_with_len}
use Rattle.std.proofs.lemmas.List.{get_or_append_left, get_or-append_right, get_or-replicate, length-append, length-set, ext_get_or, get_or-set_same, get_or-set_other, set_past, drop_at, length-replicate, replicate-append-replicate}
use Rattle.std.proofs.lemmas.Bool.{cases_lt, cases_eq, cases_order}
use Rattle.tagged.specs.Words.{blank}
use Rattle.tagged.specs.declared.words.Line.{Line}
use Rattle.memory.specs.Pictures.{four_bytes, number_at, values_of, state_byte, picture, picture_length, values_from, state_place, line_at, lines_at, PutsLine, PutsNumber, Proper}
use Rattle.memory.proofs.Places.{Bytes, line_from, four_here, length_picture, header_at, value_at, state_at, each_place}

-- after line m of n was written
module _ (n m : ℕ) (l : Line) (before after : List ℕ) (within : m < n) (puts : PutsLine n before m l after) where
  -- value w of that line
  written : (w : ℕ) → w < 4 → number_at after (values_from m + 4 * w) ≡ get_or (values_of l) w 0
  written zero h = ap (number_at after) (omega arith) ∙ puts.first
  written (suc zero) h = puts.second
  written (suc (suc zero)) h = puts.third
  written (suc (suc (suc zero))) h = puts.fourth
  written (suc (suc (suc (suc w)))) h = absurd (omega arith)

  -- byte i of another line's values, and another line's states
  value_kept : (k i : ℕ) → k < n → (k ≡ m → ⊥) → i < 16 → get_or after (values_from k + i) 0 ≡ get_or before (values_from k + i) 0
  value_kept k i h ne lt = puts.others (values_from k + i) (⊎_elim (λ e. absurd (ne e)) (⊎_elim (λ less. inl (omega arith)) (λ more. inr (omega arith))) (cases_order k m)) (λ e. omega arith)

  state_kept : (k : ℕ) → k < n → (k ≡ m → ⊥) → get_or after (state_place n k) 0 ≡ get_or before (state_place n k) 0
  state_kept k h ne = puts.others (state_place n k) (inr (omega arith)) (λ e. ne (omega arith))

module _ (ls : List Line) (more : List ℕ) (m : ℕ) (l : Line) (after : List ℕ) (within : m < length ls) (puts : PutsLine (length ls) (picture ls ++ more) m l after) (bytes : Bytes after) where
  news : List Line
  news = set ls m l

  long_news : length news ≡ length ls
  unfolding news
  long_news = length-set ls m l

  line_same : get_or news m blank ≡ l
  unfolding news
  line_same = get_or-set_same ls m l blank within

  line_other : (k : ℕ) → (k ≡ m → ⊥) → get_or news k blank ≡ get_or ls k blank
  unfolding news
  line_other k ne = get_or-set_other ls m k l blank ne

  header : (k : ℕ) → k < 4 → get_or after k 0 ≡ get_or (picture news ++ more) k 0
  header k h = puts.others k (inl (omega arith)) (λ e. omega arith) ∙ header_at ls more k h ∙ ap (λ n. get_or (four_bytes n) k 0) (sym long_news) ∙ sym (header_at news more k h)

  value : (j w i : ℕ) → j < length ls → w < 4 → i < 4 → get_or after (values_from j + 4 * w + i) 0 ≡ get_or (picture news ++ more) (values_from j + 4 * w + i) 0
  value j w i hj hw hi = ⊎_elim here elsewhere (cases_eq j m) ∙ sym (value_at news more j w i blank (omega (arith, long_news)) hw hi)
    where
      here : j ≡ m → get_or after (values_from j + 4 * w + i) 0 ≡ get_or (four_bytes (get_or (values_of (get_or news j blank)) w 0)) i 0
      here e =
          sym (four_here after bytes (values_from j + 4 * w) i hi)
          ∙ ap (λ v. get_or (four_bytes v) i 0) (ap (λ k. number_at after (values_from k + 4 * w)) e ∙ written _ m l _ after within puts w hw ∙ ap (λ x. get_or (values_of x) w 0) (sym line_same ∙ ap (λ k. get_or news k blank) (sym e)))

      elsewhere : (j ≡ m → ⊥) → get_or after (values_from j + 4 * w + i) 0 ≡ get_or (four_bytes (get_or (values_of (get_or news j blank)) w 0)) i 0
      elsewhere ne =
          let e : values_from j + 4 * w + i ≡ values_from j + (4 * w + i) = omega arith in
          ap (λ k. get_or after k 0) e
          ∙ value_kept _ m l _ after within puts j (4 * w + i) hj ne (omega arith)
          ∙ ap (λ k. get_or (picture ls ++ more) k 0) (sym e)
          ∙ value_at ls more j w i blank hj hw hi
          ∙ ap (λ x. get_or (four_bytes (get_or (values_of x) w 0)) i 0) (sym (line_other j ne))

  state : (j : ℕ) → j < length ls → get_or after (state_place (length ls) j) 0 ≡ get_or (picture news ++ more) (state_place (length ls) j) 0
  state j h = ⊎_elim here elsewhere (cases_eq j m) ∙ sym (ap (λ n. get_or (picture news ++ more) (state_place n j) 0) (sym long_news) ∙ state_at news more j blank (omega (arith, long_news)))
    where
      here : j ≡ m → get_or after (state_place (length ls) j) 0 ≡ state_byte (get_or news j blank)
      here e = ap (λ k. get_or after (state_place (length ls) k) 0) e ∙ puts.states ∙ ap state_byte (sym line_same ∙ ap (λ k. get_or news k blank) (sym e))

      elsewhere : (j ≡ m → ⊥) → get_or after (state_place (length ls) j) 0 ≡ state_byte (get_or news j blank)
      elsewhere ne = state_kept _ m l _ after within puts j h ne ∙ state_at ls more j blank h ∙ ap state_byte (sym (line_other j ne))

  behind : (k : ℕ) → picture_length (length ls) ≤ k → get_or after k 0 ≡ get_or (picture news ++ more) k 0
  behind k h =
      puts.others k (inr (omega arith)) (λ e. omega arith)
      ∙ get_or-append_right (picture ls) more (picture_length (length ls)) k 0 (length_picture ls more) h
      ∙ sym (get_or-append_right (picture news) more (picture_length (length ls)) k 0 (length_picture news more ∙ ap picture_length long_news) h)

  line_set : after ≡ picture (set ls m l) ++ more
  unfolding news
  line_set =
      ext_get_or 0 after (picture (set ls m l) ++ more) (grind (arith, common_steps, puts.long, length_picture ls more, length_picture news more))
      (λ k h. ⊎_elim (each_place (length ls) (λ k. get_or after k 0 ≡ get_or (picture news ++ more) k 0) header value state k) (behind k) (cases_lt k (picture_length (length ls))))

-- line m of n lines is written, and they were the picture of ls
module _ (ls : List Line) (more : List ℕ) (n m : ℕ) (l : Line) (before after : List ℕ) (count : length ls ≡ n) (was : before ≡ picture ls ++ more) where
  pub line_room : picture_length n ≤ length before
  line_room = omega (arith, ap length was, length-append (picture ls) more, length_picture ls more)

  pub line_put : m < n → PutsLine n before m l after → Bytes after → after ≡ picture (set ls m l) ++ more
  line_put h puts bytes = line_set ls more m l after (omega arith) (rw (count) (rw (was) at puts)) bytes

  -- there is no line m, since a picture is as long as its lines ask
  pub line_missing : ((m < n) × (picture_length n ≤ length before) → ⊥) → before ≡ picture (set ls m l) ++ more
  line_missing none =
      let room : picture_length n ≤ length before = line_room in
      let past : n ≤ m = ⊎_elim (λ lt. absurd (none (lt, room))) (λ le. le) (cases_lt m n) in
      was ∙ ap (λ x. picture x ++ more) (sym (set_past ls m l (omega arith)))

-- blank lines are zeros
blank_values : (n : ℕ) → flat_map four_bytes (flat_map values_of (replicate n blank)) ≡ replicate (16 * n) 0
blank_values zero = refl
blank_values (suc n) =
    let e : 16 * suc n ≡ 16 + 16 * n = mul-suc 16 n ∙ add_comm (16 * n) 16 in
    ap (λ l. replicate 16 0 ++ l) (blank_values n) ∙ replicate-append-replicate 16 (16 * n) 0 ∙ ap (λ k. replicate k 0) (sym e)

blank_states : (n : ℕ) → map state_byte (replicate n blank) ≡ replicate n 0
blank_states zero = refl
blank_states (suc n) = grind (arith, common_steps, blank_states n)

pub blank_picture : (n : ℕ) → picture (replicate n blank) ≡ four_bytes n ++ replicate (17 * n) 0
unfolding picture
blank_picture n =
    let e : 16 * n + n ≡ 17 * n = omega arith in
    grind (arith, common_steps, blank_values n, blank_states n, length-replicate {A = Line}, replicate-append-replicate {A = ℕ} (16 * n) n 0, e)

-- zeros with a number in front are the picture of blank lines
module _ (n : ℕ) (zeros more after : List ℕ) (long : length zeros ≡ picture_length n) (none : (k : ℕ) → k < length zeros → get_or zeros k 0 ≡ 0) (puts : PutsNumber (zeros ++ more) 0 n after) (bytes : Bytes after) where
  blanks : List ℕ
  blanks = four_bytes n ++ replicate (17 * n) 0

  long_blanks : length blanks ≡ picture_length n
  unfolding blanks
  long_blanks = grind (arith, common_steps)

  blank_each : (k : ℕ) → get_or after k 0 ≡ get_or (blanks ++ more) k 0
  unfolding blanks
  blank_each k = ⊎_elim front (λ past. ⊎_elim (middle past) behind (cases_lt k (picture_length n))) (cases_lt k 4)
    where
      front : k < 4 → get_or after k 0 ≡ get_or (blanks ++ more) k 0
      front h =
          ap (λ i. get_or after i 0) (omega arith)
          ∙ sym (four_here after bytes 0 k h)
          ∙ ap (λ v. get_or (four_bytes v) k 0) puts.here
          ∙ sym (get_or_append_left (four_bytes n) (replicate (17 * n) 0) 0 k h)
          ∙ sym (get_or_append_left blanks more 0 k (omega (arith, long_blanks)))

      middle : 4 ≤ k → k < picture_length n → get_or after k 0 ≡ get_or (blanks ++ more) k 0
      middle past h =
          puts.above k (omega arith)
          ∙ get_or_append_left zeros more 0 k (omega (arith, long))
          ∙ none k (omega (arith, long))
          ∙ sym (get_or-replicate (17 * n) (k - 4) 0 0 (omega arith))
          ∙ sym (get_or-append_right (four_bytes n) (replicate (17 * n) 0) 4 k 0 refl past)
          ∙ sym (get_or_append_left blanks more 0 k (omega (arith, long_blanks)))

      behind : picture_length n ≤ k → get_or after k 0 ≡ get_or (blanks ++ more) k 0
      behind h =
          puts.above k (omega arith)
          ∙ get_or-append_right zeros more (picture_length n) k 0 long h
          ∙ sym (get_or-append_right blanks more (picture_length n) k 0 long_blanks h)

  pub blank_put : after ≡ picture (replicate n blank) ++ more
  unfolding blanks
  blank_put =
      ext_get_or 0 after (blanks ++ more) (puts.long ∙ length-append zeros more ∙ ap (λ k. k + length more) (long ∙ sym long_blanks) ∙ sym (length-append blanks more)) (λ k h. blank_each k)
      ∙ ap (λ l. l ++ more) (sym (blank_picture n))

-- the first n lines as they are, and blank ones in the place of the others
abbrev pub begun : ℕ → List Line → List Line
begun n ls = take n ls ++ replicate (length ls - n) blank

pub length_begun : (n : ℕ) (ls : List Line) → length (begun n ls) ≡ length ls
length_begun n ls = grind (arith, common_steps)

pub begun_more : (n : ℕ) (ls : List Line) (d : Line) → n < length ls → set (begun n ls) n (get_or ls n d) ≡ begun (n + 1) ls
begun_more n ls d h = ext_get_or d _ _ (grind (arith, common_steps)) (λ k lt. grind (arith, common_steps))

-- what stands past the end of a list of lines
abbrev pub no_line : Line
no_line = record { values = []; states = [] }

-- the bytes behind a picture
pub behind_picture : (ls : List Line) (more bs : List ℕ) (n : ℕ) → bs ≡ picture ls ++ more → n ≡ picture_length (length ls) → drop n bs ≡ more
behind_picture ls more bs n is long = ap (drop n) is ∙ drop_at (picture ls) more n (length_picture ls more ∙ sym long)

-- the lines that are read after one of them was written
module _ (n m : ℕ) (before after : List ℕ) (l : Line) (within : m < n) (puts : PutsLine n before m l after) where
  line_kept_at : (k : ℕ) → k < n → (k ≡ m → ⊥) → line_at n after k ≡ line_at n before k
  line_kept_at k h ne =
      let number : (p : ℕ) → p ≤ 12 → number_at after (values_from k + p) ≡ number_at before (values_from k + p) = λ p lt. grind (arith, value_kept n m l before after within puts k p h ne, value_kept n m l before after within puts k (p + 1) h ne, value_kept n m l before after within puts k (p + 2) h ne, value_kept n m l before after within puts k (p + 3) h ne) in
      let zeroth : number_at after (values_from k) ≡ number_at before (values_from k) = let p : values_from k ≡ values_from k + 0 = omega arith in ap (number_at after) p ∙ number 0 (omega arith) ∙ ap (number_at before) (sym p) in
      rw (zeroth, number 4 (omega arith), number 8 (omega arith), number 12 (omega arith), state_kept n m l before after within puts k h ne) refl

  pub lines_put : Proper l → lines_at n after ≡ set (lines_at n before) m l
  lines_put proper =
      let long_after = length-map-range_with_len (line_at n after) 0 n in
      let long_before = length-map-range_with_len (line_at n before) 0 n in
      ext_get_or blank (lines_at n after) (set (lines_at n before) m l) (long_after ∙ sym (length-set (lines_at n before) m l ∙ long_before))
      (λ k h.
      let lt : k < n = omega (arith, long_after) in
      get_or-map-range_with_len (line_at n after) 0 n k k blank lt (omega arith)
      ∙ ⊎_elim
      (λ e. ap (line_at n after) e ∙ line_from n after m l proper (written n m l before after within puts) puts.states ∙ sym (get_or-set_same (lines_at n before) m l blank (omega (arith, long_before))) ∙ ap (λ i. get_or (set (lines_at n before) m l) i blank) (sym e))
      (λ ne. line_kept_at k lt ne ∙ sym (get_or-set_other (lines_at n before) m k l blank ne ∙ get_or-map-range_with_len (line_at n before) 0 n k k blank lt (omega arith)))
      (cases_eq k m))

-- a write of line m of n, where there is such a line, and else nothing: of the lines, and of a picture of them
module _ (n m : ℕ) (l : Line) (before after : List ℕ) where
  pub lines_written : (m < n → PutsLine n before m l after × Proper l) → ((m < n → ⊥) → after ≡ before) → lines_at n after ≡ set (lines_at n before) m l
  lines_written puts stays =
      ⊎_elim (λ h. let put = puts h in lines_put n m before after l h put.0 put.1)
      (λ past.
      let e : after ≡ before = stays (λ h. omega (arith, h, past)) in
      ap (lines_at n) e ∙ sym (set_past (lines_at n before) m l (omega (arith, past, length-map-range_with_len (line_at n before) 0 n))))
      (cases_lt m n)

  pub picture_written : ((ls : List Line) (more : List ℕ) → (length ls ≡ n) × (before ≡ picture ls ++ more) → m < n → after ≡ picture (set ls m l) ++ more) → ((m < n → ⊥) → after ≡ before) → (ls : List Line) (more : List ℕ) → (length ls ≡ n) × (before ≡ picture ls ++ more) → after ≡ picture (set ls m l) ++ more
  picture_written put stays ls more is =
      ⊎_elim (put ls more is)
      (λ past. stays (λ h. omega (arith, h, past)) ∙ is.1 ∙ ap (λ x. picture x ++ more) (sym (set_past ls m l (omega (arith, past, is.0)))))
      (cases_lt m n)
