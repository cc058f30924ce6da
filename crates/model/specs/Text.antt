-- Specification, "Program": the text that the program `leading` prints for a sheet, as bytes. Assumes nothing: these are definitions.
use Rattle.std.specs.Prelude.{true, false, List, [], ◌∷◌, ◌++◌, map, ℕ, ◌+◌, ◌*◌, ltb, eqb, replicate}
use Prim.Native.Char.{code as codePoint}
use Prim.Native.String.{String, [] as nothing, ◌∷◌ as ◌⊳◌}
use Rattle.model.specs.Digits.{digits}
use Rattle.model.specs.Order.{Entry}
use Rattle.model.specs.Listing.{Ending, enough, all, full}
use Rattle.model.specs.Calls.{refusal_number, Answer, refused, answered, Buffers, Counts, ran, unfinished, Called, state_bytes, run_list, listing_call}

-- ---- words and numbers

-- the bytes of a word
abbrev pub bytes : String → List ℕ
bytes nothing = []
bytes (c ⊳ s) = codePoint c ∷ bytes s

-- the byte of a digit: 0 to 9, then a to f
abbrev pub digit_byte : ℕ → ℕ
digit_byte d = elim (ltb d 10) [ true ↦ 48 + d | false ↦ 87 + d ]

-- digits without leading zeros; the last one stays
abbrev pub significant : List ℕ → List ℕ
significant [] = []
significant (d ∷ []) = d ∷ []
significant (d ∷ e ∷ ds) = elim (eqb d 0) [ true ↦ significant (e ∷ ds) | false ↦ d ∷ e ∷ ds ]

-- the most decimal digits of a 64-bit number
abbrev pub most_decimals : ℕ
most_decimals = 20

-- a number in decimal without leading zeros
unfoldable pub decimal : ℕ → List ℕ
decimal n = map digit_byte (significant (digits 10 most_decimals n))

-- a number in w lower-case hexadecimal digits
unfoldable pub hexadecimal : ℕ → ℕ → List ℕ
hexadecimal w n = map digit_byte (digits 16 w n)

abbrev pub space : List ℕ
space = bytes " "

abbrev pub line_feed : List ℕ
line_feed = bytes "\n"

-- ---- lines

-- the hexadecimal digits of a code
abbrev pub code_digits : ℕ
code_digits = 16

-- rank, cost and code
unfoldable pub state_line : ℕ → Entry → List ℕ
state_line rank e = decimal rank ++ space ++ decimal e.figure ++ space ++ hexadecimal code_digits e.code ++ line_feed

-- a line for each state, with ranks from this one on
unfoldable pub state_lines : ℕ → List Entry → List ℕ
state_lines rank [] = []
state_lines rank (e ∷ es) = state_line rank e ++ state_lines (rank + 1) es

abbrev pub ending_word : Ending → List ℕ
ending_word enough = bytes "enough "
ending_word all = bytes "all "
ending_word full = bytes "full "
ending_word Ending.spent = bytes "spent "

-- listed, and the other counts with their names
unfoldable pub counts_line : Counts → List ℕ
counts_line c =
    decimal c.listed
    ++ bytes " tested "
    ++ decimal c.tested
    ++ bytes " learned "
    ++ decimal c.learned
    ++ bytes " unkept "
    ++ decimal c.unkept
    ++ bytes " trials "
    ++ decimal c.trials
    ++ line_feed

-- ending and counts
unfoldable pub ending_line : Ending → Counts → List ℕ
ending_line e c = ending_word e ++ counts_line c

unfoldable pub refusal_line : ℕ → List ℕ
refusal_line n = bytes "refused " ++ decimal n ++ line_feed

-- what is printed of a call
unfoldable pub answer_text : Answer → Buffers → List ℕ
answer_text (refused r) b = refusal_line (refusal_number r)
answer_text (answered (ran e c)) b = state_lines 1 (run_list c.listed b) ++ ending_line e c
answer_text (answered unfinished) b = []

-- ---- the program

-- its settings: the states wanted, the store's words (64 entries), the queue's words (4,096 entries), the limit; nothing is offered
abbrev pub wanted_states : ℕ
wanted_states = 16

abbrev pub store_words : ℕ
store_words = 128

abbrev pub queue_words : ℕ
queue_words = 8192

abbrev pub trial_limit : ℕ
trial_limit = 1000000

-- its buffers, zero-filled
unfoldable pub program_buffers : Buffers
program_buffers = record {
  codes = replicate wanted_states 0;
  costs = replicate wanted_states 0;
  values = replicate (state_bytes * wanted_states) 0;
  queue = replicate queue_words 0;
  store = replicate store_words 0;
}

-- what it prints for a sheet
unfoldable pub leading_text : List ℕ → List ℕ
leading_text sheet = let c : Called = listing_call sheet wanted_states program_buffers 0 trial_limit in answer_text c.answer c.after
