-- The worked examples, each with its result written out.
use Rattle.std.specs.Prelude.{◌≡◌, ℕ, Some, None, Option}
use Rattle.tagged.specs.declared.answers.Notice.{Notice}
use Rattle.tagged.specs.declared.answers.Notice.TheVariants.{BusSCl}
use Rattle.tagged.specs.declared.answers.Outcome.{Outcome}
use Rattle.tagged.specs.declared.answers.Outcome.TheVariants.{Done, Discarded, Trap}
use Rattle.tagged.specs.declared.rule.Served.{Served}
use Rattle.tagged.specs.declared.words.WordState.{WordState}
use Rattle.tagged.specs.declared.words.WordState.TheVariants.{Empty, Full}
use Rattle.examples.specs.declared.Examples.{Examples}
use Rattle.examples.specs.declared.ProtocolExamples.{ProtocolExamples}
use Rattle.examples.specs.declared.WordExamples.{WordExamples}
use Rattle.protocol.specs.Standards.{code_of}
use Rattle.protocol.specs.declared.standards.LineState.TheVariants.{Invalid, Shared, Exclusive, Modified}

-- a word, and what was told as it came to be so
abbrev leaves : Outcome → ℕ → WordState → Option Notice → ℕ → WordState → Served
leaves o answered found n value state = record { outcome = o; value = answered; found = found; notice = n; word = record { value = value; state = state } }

pub record WordsWorked (e : WordExamples) : Type 0 where
  -- a word 9, full: WARd answers 9 and leaves 9 empty
  pub taken : e.taken ≡ leaves Done 9 Full (Some BusSCl) 9 Empty
  -- NAWr 4 is discarded
  pub discarded : e.discarded ≡ leaves Discarded 0 Full None 9 Full
  -- UACl leaves 9 empty
  pub cleared : e.cleared ≡ leaves Done 0 Full (Some BusSCl) 9 Empty
  -- UAWr 4 leaves 4 full, and nothing is told
  pub overwritten : e.overwritten ≡ leaves Done 0 Full None 4 Full
  -- a word 9, empty: TARd traps
  pub trapped : e.trapped ≡ leaves Trap 0 Empty None 9 Empty
  -- WNWr 4 leaves 4 empty
  pub stored : e.stored ≡ leaves Done 0 Empty None 4 Empty

pub record ProtocolsWorked (e : ProtocolExamples) : Type 0 where
  -- MESI: the first read fill is E, another's read makes it S as the reader's own copy is, another's claim makes it I, and the claimer has M
  pub first : e.first ≡ code_of Exclusive
  pub first_after_read : e.first_after_read ≡ code_of Shared
  pub second : e.second ≡ code_of Shared
  pub first_after_claim : e.first_after_claim ≡ code_of Invalid
  pub claimed : e.claimed ≡ code_of Modified
  -- MSI: the first read fill is S
  pub msi_first : e.msi_first ≡ code_of Shared

pub record Worked (e : Examples) : Type 0 where
  pub words : WordsWorked e.words
  pub protocols : ProtocolsWorked e.protocols
