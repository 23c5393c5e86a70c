-- The refusals' numbers, and what is said of a refusal.
use Rattle.std.specs.Prelude.{ℕ, List, ◌++◌, codes, decimal}
use Rattle.tagged.specs.declared.refusals.Refusal.{Refusal}
use Rattle.tagged.specs.declared.refusals.Refusal.TheVariants.{NoSuchCore, NoSuchOperation, WordNotServed, NumbersUsedUp, ListFull, BusGiven, NothingReady, NotThisTenure, NotWaiting, HasTheBus, LineNotKept, BusGivenForLine, CoresUnfit, FirstNumberZero, PictureHeader, PictureLength, PictureState, NoRoomToSave}

abbrev pub refusal_number : Refusal → ℕ
refusal_number NoSuchCore = 1
refusal_number NoSuchOperation = 2
refusal_number WordNotServed = 3
refusal_number NumbersUsedUp = 4
refusal_number ListFull = 5
refusal_number BusGiven = 6
refusal_number NothingReady = 7
refusal_number NotThisTenure = 8
refusal_number NotWaiting = 9
refusal_number HasTheBus = 10
refusal_number LineNotKept = 11
refusal_number BusGivenForLine = 12
refusal_number CoresUnfit = 13
refusal_number FirstNumberZero = 14
refusal_number PictureHeader = 15
refusal_number PictureLength = 16
refusal_number PictureState = 17
refusal_number NoRoomToSave = 18

-- what is said of a refusal
abbrev pub shown_refusal : Refusal → List ℕ
shown_refusal refusal = codes "refused with number " ++ decimal (refusal_number refusal)
