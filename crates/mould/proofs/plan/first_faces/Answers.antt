use Rattle.std.proofs.Common.{◌≡◌, rules, length, vec_len}
use Rattle.std.proofs.lemmas.Iterator.{YieldsList-from_map}
use Rattle.std.proofs.lemmas.Iterator.Adapters.{fact_from_collect}
use Rattle.mould.specs.Plan.{face_numbered}
use Rattle.mould.proofs.Chains.{YieldsList-from_range_inclusive}
use Rattle.mould.proofs.plan.first_faces.Goals as goal

pub returns : goal.returns
returns c =
    let numbers = YieldsList-from_range_inclusive {s = c.map.result.iter} 1 c.args.count (cc) (cc) (cc) in
    let faces =
    fact_from_collect (λ xs v. (v.items ≡ xs) × (vec_len v ≡ length xs)) c.collect.result c.collect.ensures.ran
    (YieldsList-from_map _ face_numbered numbers c.map.ensures.closure (λ x r q k. search rules)) in
    search rules
