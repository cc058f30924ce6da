-- Rows for the text that the program `leading` prints: whole texts, its settings, the endings' words, and numbers at their ends. Assumes nothing.
use Rattle.std.specs.Prelude.{◌≡◌, refl, List, [], ◌∷◌, map, ℕ, ◌/◌, length}
use Rattle.model.specs.Digits.{digits}
use Rattle.model.specs.Listing.{enough, all, full, Ending}
use Rattle.model.specs.Text.{bytes, decimal, hexadecimal, state_line, state_lines, ending_word, counts_line, ending_line, refusal_line, answer_text, wanted_states, trial_limit, program_buffers, leading_text}
use Rattle.model.proofs.Examples.{call, tail, small, empty_clause, seventeen}

-- decision variables with costs 0, 300, 2, 40, 5 and with costs 7, 1, 0, 6; no clauses: twenty states
unfoldable pub twenty : List ℕ
twenty =
    0x01 ∷ 0x10 ∷ 0x00 ∷ 0x02 ∷ 0x00 ∷ 0x00 ∷ 0x00 ∷ 0x96 ∷ 0x00 ∷ 0x01 ∷ 0x00 ∷ 0x14 ∷ 0x00 ∷ 0x02 ∷ 0x98 ∷ 0x00 ∷ 0x38 ∷ 0x00 ∷ 0x08 ∷ 0x00
    ∷ 0x00 ∷ 0x00 ∷ 0x30 ∷ []

-- P1 as the specification prints it; P8; P10; sixteen states of twenty
unfoldable pub texts : List (List ℕ)
unfolding call leading_text program_buffers answer_text state_lines state_line ending_line counts_line refusal_line decimal hexadecimal
texts = map leading_text (small ∷ empty_clause ∷ seventeen ∷ twenty ∷ [])

pub texts-are : texts ≡
    map bytes (
    "1 3 0100000000000000\n2 3 1000000000000000\n3 6 1100000000000000\nall 3 tested 4 learned 1 unkept 0 trials 15\n"
    ∷ "all 0 tested 1 learned 1 unkept 0 trials 0\n"
    ∷ "refused 7\n"
    ∷ "1 0 0200000000000000\n2 1 0100000000000000\n3 2 2200000000000000\n4 3 2100000000000000\n5 5 4200000000000000\n6 6 0300000000000000\n7 6 4100000000000000\n8 7 0000000000000000\n9 8 2300000000000000\n10 9 2000000000000000\n11 11 4300000000000000\n12 12 4000000000000000\n13 40 3200000000000000\n14 41 3100000000000000\n15 46 3300000000000000\n16 47 3000000000000000\nenough 16 tested 16 learned 0 unkept 0 trials 0\n"
    ∷ []
    )
unfolding texts tail small empty_clause seventeen twenty
texts-are = refl

-- k 16, values of as many states, a queue of 4,096 entries, a store of 64, and the limit
unfoldable pub settings : List ℕ
settings = wanted_states ∷ length program_buffers.codes ∷ length program_buffers.costs ∷ length program_buffers.values ∷ length program_buffers.queue / 2 ∷ length program_buffers.store / 2 ∷ trial_limit ∷ []

pub settings-are : settings ≡ 16 ∷ 16 ∷ 16 ∷ 768 ∷ 4096 ∷ 64 ∷ 1000000 ∷ []
unfolding settings program_buffers
settings-are = refl

-- the four endings
pub words_are : map ending_word (enough ∷ all ∷ full ∷ Ending.spent ∷ []) ≡ map bytes ("enough " ∷ "all " ∷ "full " ∷ "spent " ∷ [])
words_are = refl

-- five counts, each in its place
pub counts-are : counts_line (record { listed = 1; tested = 20; learned = 300; unkept = 4000; trials = 50000 }) ≡ bytes "1 tested 20 learned 300 unkept 4000 trials 50000\n"
unfolding counts_line decimal digits
counts-are = refl

-- no leading zero, one zero, every digit, and the most of 32 and of 64 bits
pub decimals_are : map decimal (0 ∷ 9 ∷ 10 ∷ 1234567890 ∷ 4294967295 ∷ 18446744073709551615 ∷ []) ≡ map bytes ("0" ∷ "9" ∷ "10" ∷ "1234567890" ∷ "4294967295" ∷ "18446744073709551615" ∷ [])
unfolding decimal digits
decimals_are = refl

-- as many digits as asked for, in lower case
pub hexadecimals_are : map (hexadecimal 16) (0 ∷ 0x0123456789abcdef ∷ 0xfedcba9876543210 ∷ []) ≡ map bytes ("0000000000000000" ∷ "0123456789abcdef" ∷ "fedcba9876543210" ∷ [])
unfolding hexadecimal digits
hexadecimals_are = refl
