use Rattle.std.proofs.Common.{◌≡◌, length, take, refl, ◌∙◌, arith, rules}
use Rattle.std.proofs.lemmas.List.{length-take-le}
use Rattle.memory.specs.Pictures.{picture_length}
use Rattle.memory.proofs.Writing.{blank_put}
use Rattle.memory.proofs.pictures.start_picture.Goals as goal

pub returns : goal.returns
returns c =
    let filled = c.fill.ensures in
    let long : length (take c.picture_length-length.result c.args.buffer.now) ≡ picture_length c.args.count = length-take-le c.picture_length-length.result c.args.buffer.now (omega arith) ∙ search rules in
    (search rules, search rules, blank_put c.args.count c.fill.new.self _ _ (filled.len ∙ long) (λ k h. filled.clones k 0 (omega (arith, filled.len)) refl) c.put_number.ensures.puts c.put_number.ensures.bytes)
