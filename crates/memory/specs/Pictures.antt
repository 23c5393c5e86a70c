-- A memory as bytes: the picture of a list of lines, and the lines of a picture.
use Rattle.std.specs.Prelude.{◌≡◌, ℕ, ◌+◌, ◌*◌, ◌/◌, ◌%◌, ◌^◌, ◌<◌, ◌≤◌, min, cond, ◌⊎◌, List, [], ◌∷◌, ◌++◌, map, length, get_or, ◌==◌, ◌≢◌, slice_index, slice_index_or, slice_set, codes, decimal}
use Rattle.std.specs.List.{range_with_len, flat_map}
use Rattle.memory.specs.declared.pictures.PictureFault.{PictureFault}
use Rattle.memory.specs.declared.pictures.PictureFault.TheVariants.{Header, Length, State}
use Rattle.tagged.specs.Refusals.{shown_refusal}
use Rattle.tagged.specs.Words.{state_number}
use Rattle.tagged.specs.declared.refusals.Refusal.{Refusal}
use Rattle.tagged.specs.declared.refusals.Refusal.TheVariants.{PictureHeader, PictureLength, PictureState}
use Rattle.tagged.specs.declared.words.Line.{Line}
use Rattle.tagged.specs.declared.words.WordState.{WordState}
use Rattle.tagged.specs.declared.words.WordState.TheVariants.{Empty, Full}

-- what its type says of a line: four values of 32 bits, and four states
pub record Proper (l : Line) : Type 0 where
  pub values : length l.values ≡ 4
  pub states : length l.states ≡ 4
  pub fits : (k : ℕ) → slice_index l.values k < 2 ^ 32

-- a number as four bytes, the low one first
abbrev pub four_bytes : ℕ → List ℕ
four_bytes v = (v % 256) ∷ (v / 256 % 256) ∷ (v / 65536 % 256) ∷ (v / 16777216 % 256) ∷ []

-- the number that the four bytes from place i on write
abbrev pub number_at : List ℕ → ℕ → ℕ
number_at bs i = slice_index bs i + slice_index bs (i + 1) * 256 + slice_index bs (i + 2) * 65536 + slice_index bs (i + 3) * 16777216

abbrev pub values_of : Line → List ℕ
values_of l = slice_index l.values 0 ∷ slice_index l.values 1 ∷ slice_index l.values 2 ∷ slice_index l.values 3 ∷ []

abbrev state_bit : Line → ℕ → ℕ
state_bit l k = state_number (slice_index_or l.states k Empty)

-- bit k is set where the word at place k is full
abbrev pub state_byte : Line → ℕ
state_byte l = state_bit l 0 + state_bit l 1 * 2 + state_bit l 2 * 4 + state_bit l 3 * 8

-- how many lines there are, the values word by word, and a byte of states for each line
unfoldable pub picture : List Line → List ℕ
picture ls = four_bytes (length ls) ++ (flat_map four_bytes (flat_map values_of ls) ++ map state_byte ls)

-- the bytes that n lines take
abbrev pub picture_length : ℕ → ℕ
picture_length n = 4 + 17 * n

-- where the values of line m begin, and where its state byte is, in a picture of n lines
abbrev pub values_from : ℕ → ℕ
values_from m = 4 + 16 * m

abbrev pub state_place : ℕ → ℕ → ℕ
state_place n m = 4 + 16 * n + m

abbrev pub state_from : ℕ → WordState
state_from b = cond (b == 1) Full Empty

-- line m of a picture of n lines
abbrev pub line_at : ℕ → List ℕ → ℕ → Line
line_at n bs m = record {
  values = number_at bs (values_from m) ∷ number_at bs (values_from m + 4) ∷ number_at bs (values_from m + 8) ∷ number_at bs (values_from m + 12) ∷ [];
  states = state_from (slice_index bs (state_place n m) % 2) ∷ state_from (slice_index bs (state_place n m) / 2 % 2) ∷ state_from (slice_index bs (state_place n m) / 4 % 2) ∷ state_from (slice_index bs (state_place n m) / 8 % 2) ∷ [];
}

-- the n lines that stand at the front of bytes
abbrev pub lines_at : ℕ → List ℕ → List Line
lines_at n bs = map (line_at n bs) (range_with_len 0 n)

-- the number of lines that a picture says it has
abbrev pub line_count : List ℕ → ℕ
line_count bs = number_at bs 0

-- bytes before and after a number was written at place i
pub record PutsNumber (before : List ℕ) (i v : ℕ) (after : List ℕ) : Type 0 where
  pub long : length after ≡ length before
  pub here : number_at after i ≡ v
  pub below : (k : ℕ) → k < i → slice_index after k ≡ slice_index before k
  pub above : (k : ℕ) → i + 4 ≤ k → slice_index after k ≡ slice_index before k

-- bytes before and after line m of n was written
pub record PutsLine (n : ℕ) (before : List ℕ) (m : ℕ) (l : Line) (after : List ℕ) : Type 0 where
  pub long : length after ≡ length before
  pub first : number_at after (values_from m) ≡ slice_index l.values 0
  pub second : number_at after (values_from m + 4) ≡ slice_index l.values 1
  pub third : number_at after (values_from m + 8) ≡ slice_index l.values 2
  pub fourth : number_at after (values_from m + 12) ≡ slice_index l.values 3
  pub states : get_or after (state_place n m) 0 ≡ state_byte l
  pub others : (k : ℕ) → (k < values_from m) ⊎ (values_from (m + 1) ≤ k) → (k ≢ state_place n m) → slice_index after k ≡ slice_index before k

-- where the front was the picture of n lines, it is that of the lines with line m replaced, and what follows stays
abbrev pub PutsInPicture : ℕ → List ℕ → ℕ → Line → List ℕ → Type 0
PutsInPicture n before m l after = (ls : List Line) (more : List ℕ) → (length ls ≡ n) × (before ≡ picture ls ++ more) → after ≡ picture (slice_set ls m l) ++ more

-- a picture of n lines can be written into these bytes
pub record Room (n : ℕ) (bs : List ℕ) : Type 0 where
  pub some : 1 ≤ n
  pub few : n ≤ 2048
  pub long : picture_length n ≤ length bs

-- what is wrong with bytes that are no picture, first things first
pub record HeaderFits (bs : List ℕ) : Type 0 where
  pub long : 4 ≤ length bs
  pub some : 1 ≤ line_count bs
  pub few : line_count bs ≤ 2048

abbrev pub SoundBelow : List ℕ → ℕ → Type 0
SoundBelow bs place = (k : ℕ) → state_place (line_count bs) 0 ≤ k → k < place → slice_index bs k ≤ 15

pub record Sound (bs : List ℕ) : Type 0 where
  pub header : HeaderFits bs
  pub long : length bs ≡ picture_length (line_count bs)
  pub states : SoundBelow bs (length bs)

-- the header is unfit, else the length is wrong, else a state byte is above 15
abbrev pub Faulty : List ℕ → PictureFault → Type 0
Faulty bs Header = HeaderFits bs → ⊥
Faulty bs (Length place) = HeaderFits bs × (length bs ≢ picture_length (line_count bs)) × (place ≡ min (length bs) (picture_length (line_count bs)))
Faulty bs (State place) = HeaderFits bs × (length bs ≡ picture_length (line_count bs)) × (state_place (line_count bs) 0 ≤ place) × (place < length bs) × (15 < slice_index bs place) × SoundBelow bs place

abbrev pub fault_refusal : PictureFault → Refusal
fault_refusal Header = PictureHeader
fault_refusal (Length place) = PictureLength
fault_refusal (State place) = PictureState

abbrev pub fault_place : PictureFault → ℕ
fault_place Header = 0
fault_place (Length place) = place
fault_place (State place) = place

-- what is said of bytes that are no picture
abbrev pub shown_picture_fault : PictureFault → List ℕ
shown_picture_fault fault = codes "at byte " ++ (decimal (fault_place fault) ++ (codes ": " ++ shown_refusal (fault_refusal fault)))
