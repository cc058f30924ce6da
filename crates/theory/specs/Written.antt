-- The plants with the longest sheets. Assumes nothing: these are definitions.
use Rattle.std.specs.Prelude.{ℕ, replicate}
use Rattle.model.specs.Sheet.{Literal, Plant, Edition}

-- the first variable has its first value
abbrev pub first_literal : Literal
first_literal = record { variable = 0; sign = 0; value = 0 }

-- a plant of d decision variables with sixteen values each, all of figure 1, s state variables, and c clauses with fifteen literals each
unfoldable pub full_plant : ℕ → ℕ → ℕ → Plant
full_plant d s c = record { costs = replicate d (replicate 16 1); states = replicate s 1; clauses = replicate c (replicate 15 first_literal) }

-- a plant with the longest sheet
abbrev pub largest_plant : Edition → Plant
largest_plant e = full_plant e.most 32 512
