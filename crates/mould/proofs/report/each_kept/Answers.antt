use Rattle.std.proofs.Common.{◌∙◌, rules}
use Rattle.std.proofs.lemmas.List.{length-map}
use Rattle.std.proofs.lemmas.Iterator.{YieldsList-from_slice, YieldsList-from_zip, same_from_all}
use Rattle.mould.specs.declared.exchange.Handed.{Handed}
use Rattle.mould.proofs.Chains.{YieldsList-seen_by}
use Rattle.mould.proofs.report.each_kept.Goals as goal

pub returns-then-handed-faces : goal.returns-then-handed-faces
returns-then-handed-faces c =
    same_from_all c.all.new.self _ _ _ c.args.faces.now c.all.ensures.ran
    (YieldsList-from_zip (YieldsList-seen_by (λ (h : Handed). h.face) (YieldsList-from_slice c.args.handed.now cc)) (YieldsList-from_slice c.args.faces.now cc))
    (length-map c.args.handed.now (λ (h : Handed). h.face) ∙ c.if-handed-faces.true)
    (λ x q k. search rules)
    (λ x q k. search rules)
