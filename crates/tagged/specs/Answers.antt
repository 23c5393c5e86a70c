-- The numbers of outcomes and notices.
use Rattle.std.specs.Prelude.{ℕ, Some, None, Option}
use Rattle.tagged.specs.declared.answers.Notice.{Notice}
use Rattle.tagged.specs.declared.answers.Notice.TheVariants.{BusSWr, BusSCl}
use Rattle.tagged.specs.declared.answers.Outcome.{Outcome}
use Rattle.tagged.specs.declared.answers.Outcome.TheVariants.{Done, Discarded, Trap, Waits}

abbrev pub outcome_number : Outcome → ℕ
outcome_number Done = 0
outcome_number Discarded = 1
outcome_number Trap = 2
outcome_number Waits = 3

-- 0 where nothing is told
abbrev pub notice_number : Option Notice → ℕ
notice_number None = 0
notice_number (Some BusSWr) = 1
notice_number (Some BusSCl) = 2
