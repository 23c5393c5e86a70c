-- What was carried out: each face with its tolerance and the two requests that brought it.
use Rattle.std.specs.Prelude.{◌≡◌, ℕ, ◌+◌, Bool, true, false, List, [], ◌∷◌, ◌++◌, map, codes, decimal}
use Rattle.tagged.specs.Refusals.{shown_refusal}
use Rattle.mould.specs.declared.exchange.Fault.{Fault}
use Rattle.mould.specs.declared.exchange.Fault.TheVariants.{NoMemory, Rejected}
use Rattle.mould.specs.declared.exchange.Handed.{Handed}
use Rattle.mould.specs.declared.plan.Face.{Face}
use Rattle.mould.specs.declared.report.Totals.{Totals}

-- request n fills the word, and request n + 1 takes it
abbrev pub handed_by : ℕ → Face → Handed
handed_by n f = record { face = f; filled = n; taken = n + 1 }

-- one face after the other, from request n on
abbrev pub all_handed_from : ℕ → List Face → List Handed
all_handed_from n [] = []
all_handed_from n (f ∷ fs) = handed_by n f ∷ all_handed_from (n + 2) fs

-- the probe has the faces of the plan, in its order, each with its own tolerance
abbrev pub KeepsItsTolerance : List Face → List Handed → Type 0
KeepsItsTolerance fs hs = map (λ h. h.face) hs ≡ fs

-- the line that is printed of it
abbrev pub shown_handed : Handed → List ℕ
shown_handed h = codes "face " ++ (decimal h.face.number ++ (codes ": tolerance " ++ (decimal h.face.tolerance ++ (codes ", filled by request " ++ (decimal h.filled ++ (codes ", taken by request " ++ decimal h.taken))))))

-- whether the tolerances were kept, in words
abbrev pub shown_kept : Bool → List ℕ
shown_kept true = codes "each face kept its tolerance"
shown_kept false = codes "a face lost its tolerance"

-- the closing line
abbrev pub shown_totals : Totals → List ℕ
shown_totals t = decimal t.faces ++ (codes " faces, " ++ (decimal t.requests ++ (codes " requests: " ++ shown_kept t.kept)))

-- what is said of a hand-over that ended early
abbrev pub shown_fault : Fault → List ℕ
shown_fault NoMemory = codes "there is not enough memory"
shown_fault (Rejected refusal) = codes "a request was " ++ shown_refusal refusal
