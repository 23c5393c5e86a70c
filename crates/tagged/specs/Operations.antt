-- The seventeen operations: what each is, its code and its name.
use Rattle.std.specs.Prelude.{◌≡◌, ◌≢◌, ℕ, ◌+◌, ◌*◌, ◌<◌, Bool, true, false, cond, List, [], ◌∷◌, Some, None, Ok, codes, MatchResult, Option, Result, slice_index_or}
use Rattle.tagged.specs.declared.operations.Class.{Class}
use Rattle.tagged.specs.declared.operations.Class.TheVariants.{Unconditional, Waiting, NonFaulting, Trapping}
use Rattle.tagged.specs.declared.operations.Operation.{Operation}
use Rattle.tagged.specs.declared.operations.Operation.TheVariants.{Read, Write, Clear}
use Rattle.tagged.specs.declared.operations.UnknownName.{UnknownName}
use Rattle.tagged.specs.declared.refusals.Refusal.{Refusal}
use Rattle.tagged.specs.declared.refusals.Refusal.TheVariants.{NoSuchOperation}
use Rattle.tagged.specs.declared.words.WordState.{WordState}
use Rattle.tagged.specs.declared.words.WordState.TheVariants.{Empty, Full}

abbrev pub class_of : Operation → Class
class_of (Read c a) = c
class_of (Write c a) = c
class_of Clear = Unconditional

abbrev pub reads : Operation → Bool
reads (Read c a) = true
reads (Write c a) = false
reads Clear = false

abbrev pub altering : Operation → Bool
altering (Read c a) = a
altering (Write c a) = a
altering Clear = true

-- a claim may change the word: writes, altering reads, the clear
abbrev pub claims : Operation → Bool
claims (Read c a) = a
claims (Write c a) = true
claims Clear = true

-- only class U takes a word in either state
abbrev pub needed_by : Class → WordState → Option WordState
needed_by Unconditional s = None
needed_by Waiting s = Some s
needed_by NonFaulting s = Some s
needed_by Trapping s = Some s

-- the state that the word must have
abbrev pub condition : Operation → Option WordState
condition (Read c a) = needed_by c Full
condition (Write c a) = needed_by c Empty
condition Clear = None

abbrev pub class_number : Class → ℕ
class_number Unconditional = 0
class_number Waiting = 1
class_number NonFaulting = 2
class_number Trapping = 3

-- within a class: NRd, NWr, ARd, AWr; the clear comes last
abbrev pub code_of : Operation → ℕ
code_of (Read c a) = 4 * class_number c + cond a 2 0
code_of (Write c a) = 4 * class_number c + cond a 3 1
code_of Clear = 16

-- the ASCII codes of U, W, N and T
abbrev pub class_letter : Class → ℕ
class_letter Unconditional = 85
class_letter Waiting = 87
class_letter NonFaulting = 78
class_letter Trapping = 84

-- the ASCII codes of A and N
abbrev pub alter_letter : Bool → ℕ
alter_letter true = 65
alter_letter false = 78

-- class, A or N, then Rd or Wr; UACl is the one exception
abbrev pub name_of : Operation → List ℕ
name_of (Read k x) = class_letter k ∷ alter_letter x ∷ codes "Rd"
name_of (Write k x) = class_letter k ∷ alter_letter x ∷ codes "Wr"
name_of Clear = codes "UACl"

-- a code reads back as its operation, and a number above 16, which is no operation's code, is refused
pub record Decodes (code : ℕ) (r : Result Operation Refusal) : Type 0 where
  pub cases : MatchResult r (λ o. code ≡ code_of o) (λ e. (e ≡ NoSuchOperation) × (16 < code))
  pub reads_back : (o : Operation) → code ≡ code_of o → r ≡ Ok o

-- a name reads back as its operation, and bytes that are no operation's name are refused
pub record ReadsName (name : List ℕ) (r : Result Operation UnknownName) : Type 0 where
  pub cases : MatchResult r (λ o. name ≡ name_of o) (λ e. (o : Operation) → name ≢ name_of o)
  pub reads_back : (o : Operation) → name ≡ name_of o → r ≡ Ok o

-- the operations in the order of their codes
abbrev pub operations : List Operation
operations =
    Read Unconditional false ∷ Write Unconditional false ∷ Read Unconditional true ∷ Write Unconditional true ∷
    Read Waiting false ∷ Write Waiting false ∷ Read Waiting true ∷ Write Waiting true ∷
    Read NonFaulting false ∷ Write NonFaulting false ∷ Read NonFaulting true ∷ Write NonFaulting true ∷
    Read Trapping false ∷ Write Trapping false ∷ Read Trapping true ∷ Write Trapping true ∷ Clear ∷ []

-- the operation with a code; a number above 16 has none, and the clear stands in
abbrev pub operation_coded : ℕ → Operation
operation_coded k = slice_index_or operations k Clear
