-- Which numbers a refusal has, by whom it blames. Assumes nothing: these are definitions.
use Rattle.std.specs.Prelude.{◌≡◌, true, ◌⊎◌, ℕ, ◌≤◌}
use Rattle.model.specs.Sheet.{Edition}
use Rattle.model.specs.Calls.{Refusal, by_host, by_author}

-- the host's before the sheet
abbrev pub HostNumber : ℕ → Type 0
HostNumber n = ((1 ≤ n) × (n ≤ 4)) ⊎ (n ≡ 19)

-- the author's: 20 only where weights stand
abbrev pub AuthorNumber : Edition → ℕ → Type 0
AuthorNumber e n = ((5 ≤ n) × (n ≤ 13)) ⊎ ((e.weighed ≡ true) × (n ≡ 20))

-- those of whom a listing's refusal blames
abbrev pub RefusalNumber : Edition → Refusal → Type 0
RefusalNumber e (by_host n) = HostNumber n
RefusalNumber e (by_author n) = AuthorNumber e n

-- of tables: the host's, and the author's
abbrev pub TableHostNumber : ℕ → Type 0
TableHostNumber n = (n ≡ 16) ⊎ (n ≡ 18)

abbrev pub TableAuthorNumber : ℕ → Type 0
TableAuthorNumber n = (n ≡ 17) ⊎ ((7 ≤ n) × (n ≤ 11))

-- those of whom a writing's refusal blames
abbrev pub TableNumber : Refusal → Type 0
TableNumber (by_host n) = TableHostNumber n
TableNumber (by_author n) = TableAuthorNumber n
