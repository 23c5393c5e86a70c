use Rattle.std.proofs.Common.{length, arith, rules}
use Rattle.std.proofs.iter.runs.Sources.{ranges}
use Rattle.tagged.specs.Words.{blank}
use Rattle.memory.specs.Pictures.{state_place, SoundBelow}
use Rattle.memory.proofs.Places.{picture_back}
use Rattle.memory.proofs.pictures.check_picture.Goals as goal

pub returns-in-Some-clause-cases : goal.returns-in-Some-clause-cases
returns-in-Some-clause-cases c = (search rules, search rules, search (rules, ranges), search (rules, ranges), search (rules, ranges), search (rules, ranges))

pub returns-in-None-clause-same_bytes : goal.returns-in-None-clause-same_bytes
returns-in-None-clause-same_bytes c =
    let states : SoundBelow c.args.bytes.now (length c.args.bytes.now) = search (rules, ranges) in
    picture_back _ _ (λ k. let fits = c.type_inv.bytes k in omega arith) blank (search rules) (search rules)
    (λ m h. states (state_place c.number_at-count.result m) (omega arith) (omega arith))
