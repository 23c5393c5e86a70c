-- A name belongs to one operation.
use Rattle.std.proofs.Common.{◌≡◌, arith}
use Rattle.tagged.specs.declared.operations.Operation.{Operation}
use Rattle.tagged.specs.Operations.{name_of}

pub one_operation : (o p : Operation) → name_of o ≡ name_of p → o ≡ p
one_operation o p e = grind arith
