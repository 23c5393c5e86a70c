-- The faces of a mould, and how many a text asks for.
use Rattle.std.specs.Prelude.{◌≡◌, ℕ, ◌+◌, ◌%◌, ◌≤◌, List}
use Rattle.std.specs.Str.Parse.{IsNumeral, digits_value, without_leading_plus}
use Rattle.mould.specs.declared.plan.Face.{Face}

abbrev pub face_numbered : ℕ → Face
face_numbered n = record { number = n; tolerance = 5 + n % 46 }

-- the text is a decimal number, perhaps after a plus: n, which is not too many
pub record CountOf (text : List ℕ) (n : ℕ) : Type 0 where
  pub numeral : IsNumeral 10 (without_leading_plus text)
  pub is : n ≡ digits_value 10 (without_leading_plus text)
  pub few : n ≤ 100000
