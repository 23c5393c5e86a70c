-- What a hand-over does to the words that planner and probe share.
use Rattle.std.specs.Prelude.{◌≡◌, ◌+◌, ◌^◌, ◌≤◌}
use Rattle.tagged.specs.Words.{with_word}
use Rattle.tagged.specs.declared.refusals.Refusal.{Refusal}
use Rattle.tagged.specs.declared.refusals.Refusal.TheVariants.{NumbersUsedUp}
use Rattle.tagged.specs.declared.words.WordState.TheVariants.{Empty}
use Rattle.mould.specs.declared.exchange.Handed.{Handed}
use Rattle.mould.specs.declared.exchange.Words.{Words}
use Rattle.mould.specs.declared.plan.Face.{Face}
use Rattle.mould.specs.Handed.{handed_by}

-- the word that the face went through holds its tolerance, and is empty again
pub record HandsOver (before : Words) (f : Face) (h : Handed) (after : Words) : Type 0 where
  pub handed : h ≡ handed_by before.next f
  pub numbers : after.next ≡ before.next + 2
  pub words : after.line ≡ with_word before.line f.number (record { value = f.tolerance; state = Empty })

-- there are not two request numbers left, and nothing changed
pub record RunsOut (before : Words) (e : Refusal) (after : Words) : Type 0 where
  pub refusal : e ≡ NumbersUsedUp
  pub numbers : 2 ^ 32 ≤ before.next + 2
  pub words : after ≡ before
