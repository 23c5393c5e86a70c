use Rattle.std.proofs.Common.{◌≡◌, rules}
use Rattle.tagged.specs.declared.words.WordState.TheVariants.{Empty}
use Rattle.memory.specs.Pictures.{line_at}
use Rattle.memory.proofs.Places.{four_are}
use Rattle.memory.proofs.pictures.Front.line.Goals as goal

pub returns : goal.returns
returns c =
    let line = line_at c.args.self.now.count c.args.self.now.bytes.now c.args.n in
    let values : c.from_fn.result ≡ line.values = four_are _ 0 _ _ _ _ (search rules) (search rules) (search rules) (search rules) (search rules) in
    let states : c.map.result ≡ line.states = four_are _ Empty _ _ _ _ (search rules) (search rules) (search rules) (search rules) (search rules) in
    λ i. record { values = values i; states = states i }
