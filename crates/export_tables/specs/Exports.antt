-- What the exports of the writing and the reading promise beyond their equations, and calls of them that returned 0. Assumes nothing: these are definitions.
use Rattle.std.specs.Prelude.{◌≡◌, List, ℕ}
use Rattle.model.specs.Tables.{Tables}
use Rattle.model.specs.TableCalls.{write_export, read_export}
use Rattle.theory.specs.WriteRead.{Written, Opened}

-- where the writing was not refused, its bytes are read as the tables, and are as many as the word says
pub record WriteTells (t : Tables) (returned : ℕ) (after : List ℕ) (word : ℕ) : Type 0 where
  pub written : returned ≡ 0 → Written t word after

-- where the reading was not refused, its tables are written as the sheet
pub record ReadTells (sheet : List ℕ) (returned : ℕ) (after : Tables) : Type 0 where
  pub opened : returned ≡ 0 → Opened sheet after

-- ---- calls

-- any call of `leading_write` with these tables: what it was given, what it left, and its `ensures`
pub record WriteCall (t : Tables) : Type 0 where
  pub buffer : List ℕ
  pub word : ℕ
  pub returned : ℕ
  pub after : List ℕ
  pub bytes : ℕ
  pub equation : write_export t buffer word ≡ (returned, after, bytes)
  pub right : WriteTells t returned after bytes

-- any call of `leading_read` on this sheet
pub record ReadCall (sheet : List ℕ) : Type 0 where
  pub lent : Tables
  pub returned : ℕ
  pub after : Tables
  pub equation : read_export sheet lent ≡ (returned, after)
  pub right : ReadTells sheet returned after
