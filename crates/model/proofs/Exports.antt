-- Rows for the exports to C: what is returned, the result words and every other lent word. Assumes nothing.
use Rattle.std.specs.Prelude.{◌≡◌, refl, List, [], ◌∷◌, map, ℕ, replicate}
use Rattle.model.specs.Conflict.{reduce_alone}
use Rattle.model.specs.Listing.{enough, all, full}
use Rattle.model.specs.Calls.{by_host, by_author, Called, shown_by, word_grounds, on_words, test_call, reduce_call, Exported, exported_of, export_with, export_call, test_export, reduce_export}
use Rattle.model.proofs.Examples.{Settings, Row, ◌gives◌, refusal, lists, strikes, call, lent, ran_with, whole, plain, tail, small, empty_clause, both, selector, three, as_p1}
use Rattle.model.proofs.Edges.{second}
use Rattle.model.proofs.Alone.{mixed}
use Rattle.model.proofs.Refusals.{other_edition, lengths, values_of}

-- ---- the listing

-- a row of the export: a call, its lent result words, what is returned, and the result words after it
pub record ExportRow : Type 0 where
  pub row : Row
  pub lent_result : List ℕ
  pub returned : ℕ
  pub result : List ℕ

abbrev pub exporting : Row → List ℕ → ℕ → List ℕ → ExportRow
exporting row lent_result returned result = record { row = row; lent_result = lent_result; returned = returned; result = result }

-- the export of a call with these lent result words
unfoldable pub export_of : Settings → List ℕ → Exported
unfolding call export_with export_call exported_of
export_of s result = export_call s.sheet s.k (lent s) s.held s.limit result

unfoldable pub exported : List ExportRow → List Exported
unfolding export_of lent
exported rows = map (λ r. export_of r.row.given r.lent_result) rows

-- what it is to be: the buffers as after the call itself
unfoldable pub exported_as : ExportRow → Exported
unfolding whole ran_with lent
exported_as r = let c : Called = whole r.row.given r.row.wanted in record { returned = r.returned; after = c.after; result = r.result }

unfoldable pub export_wanted : List ExportRow → List Exported
unfolding exported_as
export_wanted rows = map exported_as rows

-- result words as lent
abbrev pub nines : ℕ → List ℕ
nines n = replicate n 9

unfoldable pub exports : List ExportRow
exports =
    -- each ending, with six words, and with one more that is unchanged
    exporting (plain small 16 8 4 [] 1000 gives as_p1) (nines 7) 0 (2 ∷ 3 ∷ 4 ∷ 1 ∷ 0 ∷ 15 ∷ 9 ∷ [])
    ∷ exporting (plain small 1 8 4 [] 1000 gives lists enough (0x0100000000000000 ∷ []) (3 ∷ []) (both ∷ 0 ∷ []) 2 1 0 13) (nines 6) 0 (1 ∷ 1 ∷ 2 ∷ 1 ∷ 0 ∷ 13 ∷ [])
    -- 'all' and not 'enough' where the k-th state is the last
    ∷ exporting (plain small 3 8 4 [] 1000 gives as_p1) (nines 6) 0 (2 ∷ 3 ∷ 4 ∷ 1 ∷ 0 ∷ 15 ∷ [])
    ∷ exporting (plain small 16 2 4 [] 1000 gives lists full [] [] [] 0 0 0 0) (nines 6) 0 (3 ∷ 0 ∷ 0 ∷ 0 ∷ 0 ∷ 0 ∷ [])
    ∷ exporting (plain small 16 8 4 [] 5 gives strikes [] [] [] 1 0 0 5) (nines 6) 0 (4 ∷ 0 ∷ 1 ∷ 0 ∷ 0 ∷ 5 ∷ [])
    -- a conflict is offered
    ∷ exporting (plain small 16 8 4 (both ∷ 0 ∷ []) 1000 gives lists all three (3 ∷ 3 ∷ 6 ∷ []) (both ∷ 0 ∷ []) 3 0 0 5) (nines 6) 0 (2 ∷ 3 ∷ 3 ∷ 0 ∷ 0 ∷ 5 ∷ [])
    -- conflicts that are not kept
    ∷ exporting (plain small 16 8 0 [] 1000 gives lists all three (3 ∷ 3 ∷ 6 ∷ []) [] 4 0 1 5) (nines 8) 0 (2 ∷ 3 ∷ 4 ∷ 0 ∷ 1 ∷ 5 ∷ 9 ∷ 9 ∷ [])
    -- fewer than six result words: 2, and nothing is written
    ∷ exporting (plain small 16 8 4 [] 1000 gives refusal (by_host 2)) (nines 5) 2 (nines 5)
    ∷ exporting (plain small 16 8 4 [] 1000 gives refusal (by_host 2)) [] 2 []
    -- it comes after k, and before the queue and the sheet
    ∷ exporting (lengths small 0 16 16 8 8 0 gives refusal (by_host 1)) (nines 5) 1 (nines 5)
    ∷ exporting (lengths other_edition 16 16 16 7 7 0 gives refusal (by_host 2)) (nines 5) 2 (nines 5)
    -- also before the values
    ∷ exporting (values_of 767 (lengths small 16 16 16 8 8 0) gives refusal (by_host 2)) (nines 5) 2 (nines 5)
    -- the host's other refusals and the author's, with words enough: nothing is written
    ∷ exporting (lengths small 16 15 16 8 8 0 gives refusal (by_host 2)) (nines 6) 2 (nines 6)
    ∷ exporting (values_of 767 (lengths small 16 16 16 7 8 0) gives refusal (by_host 19)) (nines 6) 19 (nines 6)
    ∷ exporting (lengths small 16 16 16 7 8 0 gives refusal (by_host 3)) (nines 6) 3 (nines 6)
    ∷ exporting (lengths small 16 16 16 8 7 0 gives refusal (by_host 4)) (nines 6) 4 (nines 6)
    ∷ exporting (plain other_edition 16 8 4 [] 1000 gives refusal (by_author 6)) (nines 7) 6 (nines 7)
    ∷ []

pub exports-are : exported exports ≡ export_wanted exports
unfolding exports exported export_wanted export_of plain lengths values_of tail small other_edition three as_p1
exports-are = refl

-- ---- the test and the reduction

unfoldable pub test_exports : List (ℕ × List ℕ × List ℕ)
unfolding call
test_exports =
    -- each answer, the first with a word behind the two
    test_export small selector 0x1000000000000000 1000 (nines 48) (7 ∷ 8 ∷ 9 ∷ [])
    ∷ test_export mixed second 0x0200000000000000 1000 (nines 48) (7 ∷ 8 ∷ [])
    ∷ test_export small both 0 1000 (nines 48) (7 ∷ 8 ∷ [])
    ∷ test_export small both 0 1 (nines 48) (7 ∷ 8 ∷ [])
    -- too short a buffer: nothing is shown, also where the test is consistent, and it comes before the sheet
    ∷ test_export small selector 0x1000000000000000 1000 (nines 48) (7 ∷ [])
    ∷ test_export other_edition 0 0 1000 (nines 48) (7 ∷ [])
    -- the host's refusal and the author's
    ∷ test_export small 0x2000000000000000 1 1000 (nines 48) (7 ∷ 8 ∷ [])
    ∷ test_export other_edition 0 0 1000 (nines 48) (7 ∷ 8 ∷ [])
    ∷ []

pub test_exports-are : test_exports ≡
    (0, 1 ∷ replicate 47 0, 1 ∷ 2 ∷ 9 ∷ [])
    ∷ (0, 1 ∷ 2 ∷ 2 ∷ replicate 45 0, 1 ∷ 13 ∷ [])
    ∷ (0, replicate 48 0, 2 ∷ 2 ∷ [])
    ∷ (0, replicate 48 0, 3 ∷ 1 ∷ [])
    ∷ (2, nines 48, 7 ∷ [])
    ∷ (2, nines 48, 7 ∷ [])
    ∷ (14, nines 48, 7 ∷ 8 ∷ [])
    ∷ (6, nines 48, 7 ∷ 8 ∷ [])
    ∷ []
unfolding test_exports call tail small mixed other_edition test_call on_words word_grounds shown_by test_export
test_exports-are = refl

unfoldable pub reduce_exports : List (ℕ × List ℕ × List ℕ)
unfolding call
reduce_exports =
    -- a conflict, with a word behind the two of each; none; 'spent'; the empty conflict
    reduce_export small both 0 1000 (4 ∷ 5 ∷ 6 ∷ []) (7 ∷ 8 ∷ 9 ∷ [])
    ∷ reduce_export small both 0x1000000000000000 1000 (4 ∷ 5 ∷ []) (7 ∷ 8 ∷ [])
    ∷ reduce_export small both 0 4 (4 ∷ 5 ∷ []) (7 ∷ 8 ∷ [])
    ∷ reduce_export empty_clause both 0 1000 (4 ∷ 5 ∷ []) (7 ∷ 8 ∷ [])
    -- too short a buffer for the conflict, and for the result
    ∷ reduce_export other_edition 0 0 1000 (4 ∷ []) (7 ∷ 8 ∷ [])
    ∷ reduce_export other_edition 0 0 1000 (4 ∷ 5 ∷ []) (7 ∷ [])
    -- the host's refusal and the author's
    ∷ reduce_export small selector 0x2000000000000000 1000 (4 ∷ 5 ∷ []) (7 ∷ 8 ∷ [])
    ∷ reduce_export other_edition 0 0 1000 (4 ∷ 5 ∷ []) (7 ∷ 8 ∷ [])
    ∷ []

pub reduce_exports-are : reduce_exports ≡
    (0, both ∷ 0 ∷ 6 ∷ [], 2 ∷ 12 ∷ 9 ∷ [])
    ∷ (0, 4 ∷ 5 ∷ [], 1 ∷ 1 ∷ [])
    ∷ (0, 4 ∷ 5 ∷ [], 3 ∷ 4 ∷ [])
    ∷ (0, 0 ∷ 0 ∷ [], 2 ∷ 0 ∷ [])
    ∷ (2, 4 ∷ [], 7 ∷ 8 ∷ [])
    ∷ (2, 4 ∷ 5 ∷ [], 7 ∷ [])
    ∷ (15, 4 ∷ 5 ∷ [], 7 ∷ 8 ∷ [])
    ∷ (6, 4 ∷ 5 ∷ [], 7 ∷ 8 ∷ [])
    ∷ []
unfolding reduce_exports call tail small empty_clause other_edition reduce_call on_words word_grounds reduce_alone reduce_export
reduce_exports-are = refl
