-- MSI and MESI by their tables.
use Rattle.std.specs.Prelude.{Bool, true, false, cond, [], ◌∷◌, ℕ, get_or}
use Rattle.protocol.specs.Rules.{Rules}
use Rattle.protocol.specs.declared.standards.LineState.{LineState}
use Rattle.protocol.specs.declared.standards.LineState.TheVariants.{Invalid, Shared, Exclusive, Modified}
use Rattle.protocol.specs.declared.standards.Standard.{Standard}
use Rattle.protocol.specs.declared.standards.Standard.TheVariants.{Msi, Mesi}

-- 0 I, 1 S, 2 E, 3 M; a code that a protocol does not use counts as I
abbrev pub state_of : Standard → ℕ → LineState
state_of Msi c = get_or (Invalid ∷ Shared ∷ Invalid ∷ Modified ∷ []) c Invalid
state_of Mesi c = get_or (Invalid ∷ Shared ∷ Exclusive ∷ Modified ∷ []) c Invalid

abbrev pub code_of : LineState → ℕ
code_of Invalid = 0
code_of Shared = 1
code_of Exclusive = 2
code_of Modified = 3

abbrev pub kept : LineState → Bool
kept Invalid = false
kept Shared = true
kept Exclusive = true
kept Modified = true

abbrev pub sole : LineState → Bool
sole Invalid = false
sole Shared = false
sole Exclusive = true
sole Modified = true

abbrev pub owing : LineState → Bool
owing Invalid = false
owing Shared = false
owing Exclusive = false
owing Modified = true

abbrev pub after_read : LineState → LineState
after_read Invalid = Invalid
after_read Shared = Shared
after_read Exclusive = Shared
after_read Modified = Shared

-- a line that no other cache kept is read in as E where the protocol has it
abbrev pub filled : Standard → Bool → LineState
filled Msi shared = Shared
filled Mesi shared = cond shared Shared Exclusive

abbrev pub standard_rules : Standard → Rules
standard_rules p = record {
  kept = λ c. kept (state_of p c);
  sole = λ c. sole (state_of p c);
  owing = λ c. owing (state_of p c);
  after_read = λ c. code_of (after_read (state_of p c));
  after_claim = λ c. code_of Invalid;
  read_fill = λ shared. code_of (filled p shared);
  own_claim = code_of Modified;
}
