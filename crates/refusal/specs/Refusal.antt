-- A refusal in the code, as the model's. Assumes nothing: these are definitions.
use Rattle.std.proofs.Math.Option.{Option, none, some}
use Rattle.std.specs.Prelude.{ℕ, Result, Ok, Err}
use Rattle.model.specs.Calls.{Refusal, by_host, by_author, Answered, refused, answered}
use Rattle.refusal.specs.declared.HostGround.{HostGround}
use Rattle.refusal.specs.declared.AuthorGround.{AuthorGround}
use Rattle.refusal.specs.declared.Refusal.{Refusal as Whose}

-- the numbers of the grounds
abbrev pub host_number : HostGround → ℕ
host_number HostGround.BadK = 1
host_number HostGround.BadOutput = 2
host_number HostGround.BadQueue = 3
host_number HostGround.BadStore = 4
host_number HostGround.BadMask = 14
host_number HostGround.BadValues = 15
host_number HostGround.BadTables = 16
host_number HostGround.BadSheetRoom = 18
host_number HostGround.BadValuesRoom = 19

abbrev pub author_number : AuthorGround → ℕ
author_number AuthorGround.SheetShort = 5
author_number AuthorGround.SheetEdition = 6
author_number AuthorGround.SheetParts = 7
author_number AuthorGround.SheetHidden = 8
author_number AuthorGround.SheetClauses = 9
author_number AuthorGround.SheetVariable = 10
author_number AuthorGround.SheetValue = 11
author_number AuthorGround.SheetFiller = 12
author_number AuthorGround.SheetLong = 13
author_number AuthorGround.TablesRanges = 17
author_number AuthorGround.SheetWeight = 20

-- who caused a refusal, and its number
abbrev pub refusal_of : Whose → Refusal
refusal_of (Whose.Host g) = by_host (host_number g)
refusal_of (Whose.Author g) = by_author (author_number g)

-- the number of the ground that a check of the host found, or of the author, where it found one
abbrev pub host_found : {A : Type 0} → Result A HostGround → Option ℕ
host_found (Ok a) = none
host_found (Err g) = some (host_number g)

abbrev pub author_found : {A : Type 0} → Result A AuthorGround → Option ℕ
author_found (Ok a) = none
author_found (Err g) = some (author_number g)

-- what a call answers that only writes out bytes: how many it wrote, or its refusal
abbrev pub written_of : Result ℕ Whose → Answered ℕ
written_of (Ok n) = answered n
written_of (Err r) = refused (refusal_of r)
