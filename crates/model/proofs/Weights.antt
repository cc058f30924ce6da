-- Rows for edition 2: lists by the greatest product and then the lowest code, each ending, the whole set, and single definitions. Assumes nothing.
use Rattle.std.specs.Prelude.{◌≡◌, refl, true, false, List, [], ◌∷◌, ◌++◌, map, ℕ}
use Rattle.model.specs.Lists.{place, place_all}
use Rattle.model.specs.Digits.{number}
use Rattle.model.specs.Sheet.{Plant, Read, edition1, edition2, edition_of, read_sheet}
use Rattle.model.specs.Consistency.{holds_at, literal_holds, clause_holds, all_hold}
use Rattle.model.specs.Order.{Order, better, join, cost, chance, best_value, before, order_of, is_consistent, leading_states, whole_set}
use Rattle.model.specs.Listing.{Ending, enough, all, full}
use Rattle.model.specs.Calls.{Called, Exported, exported_of, export_with, weights_call, weights_export, by_host, by_author}
use Rattle.model.proofs.Examples.{Settings, Row, Wanted, ◌gives◌, refusal, lists, shows, strikes, lent, call, expected, plain, tail, small, both, selector, three}
use Rattle.model.proofs.Edges.{second, small_plant}
use Rattle.model.proofs.Exports.{ExportRow, exporting, export_wanted, nines}

-- whoever unfolds this unfolds every definition of the listing
unfoldable pub weight_call : Settings → Called
unfolding call weights_call
weight_call s = weights_call s.sheet s.k (lent s) s.held s.limit

-- what the calls of a table's rows answer and leave in the lent buffers
unfoldable pub weight_answers : List Row → List Called
unfolding weight_call
weight_answers rows = map (λ r. weight_call r.given) rows

-- ---- sheets

-- what follows the weights of the small plant: drive hidden, selector≠0 or clutch≠0 or drive=1, drive=0
unfoldable pub weight_tail : List ℕ
weight_tail = 0x98 ∷ 0x10 ∷ 0x06 ∷ 0x01 ∷ 0x04 ∷ 0x42 ∷ 0x00 ∷ []

-- the small plant, selector with weights 200, 40 and clutch with weights 180, 60
unfoldable pub small_weights : List ℕ
small_weights = 0x02 ∷ 0x10 ∷ 0x20 ∷ 0x10 ∷ 0xe4 ∷ 0x14 ∷ 0x0d ∷ 0xa1 ∷ 0xe0 ∷ weight_tail

-- weights 100, 20 and 20, 1; no clauses
unfoldable pub sums_differ : List ℕ
sums_differ = 0x02 ∷ 0x10 ∷ 0x00 ∷ 0x00 ∷ 0xb2 ∷ 0x0a ∷ 0x08 ∷ 0xa0 ∷ 0x08 ∷ []

-- weights 6, 4 and 3, 2; no clauses
unfoldable pub products_tied : List ℕ
products_tied = 0x02 ∷ 0x10 ∷ 0x00 ∷ 0x00 ∷ 0x83 ∷ 0x02 ∷ 0x08 ∷ 0x18 ∷ 0x10 ∷ []

-- weights 9, 8 and 1, 3, 9; no clauses
unfoldable pub greatest_last : List ℕ
greatest_last = 0x02 ∷ 0x10 ∷ 0x00 ∷ 0x00 ∷ 0x84 ∷ 0x84 ∷ 0x10 ∷ 0x08 ∷ 0x18 ∷ 0x48 ∷ []

-- weights 9, 9 and 5, 5, 7; the second is 0
unfoldable pub weights_tied : List ℕ
weights_tied = 0x02 ∷ 0x10 ∷ 0x00 ∷ 0x08 ∷ 0x84 ∷ 0x84 ∷ 0x90 ∷ 0x28 ∷ 0x28 ∷ 0x38 ∷ 0x82 ∷ 0x00 ∷ []

-- weights 7, 7; a hidden variable of three values is 2
unfoldable pub hidden_two : List ℕ
hidden_two = 0x02 ∷ 0x08 ∷ 0x20 ∷ 0x08 ∷ 0x83 ∷ 0x83 ∷ 0x90 ∷ 0x82 ∷ 0x20 ∷ []

-- one decision variable with weights 1, 255
unfoldable pub one_to255 : List ℕ
one_to255 = 0x02 ∷ 0x08 ∷ 0x00 ∷ 0x00 ∷ 0x80 ∷ 0xff ∷ 0x80 ∷ []

-- eight decision variables of one value with weight 255
unfoldable pub eight_parts : List ℕ
eight_parts = 0x02 ∷ 0x40 ∷ 0x00 ∷ 0x00 ∷ 0x7f ∷ 0x87 ∷ 0xf8 ∷ 0x7f ∷ 0x87 ∷ 0xf8 ∷ 0x7f ∷ 0x87 ∷ 0xf8 ∷ 0x7f ∷ 0x87 ∷ 0xf8 ∷ []

-- ---- lists

unfoldable pub products : List ℕ
products = 12000 ∷ 7200 ∷ 2400 ∷ []

-- the small plant's list, with products where costs stood
unfoldable pub by_weights : Wanted
by_weights = lists all three products (both ∷ 0 ∷ []) 4 1 0 15

unfoldable pub weighings : List Row
weighings =
    plain small_weights 16 8 4 [] 1000 gives by_weights
    -- the greatest product first: by sums 0 1 would come before 1 0, and by the least product the last first
    ∷ plain sums_differ 16 8 4 [] 1000
    gives lists all (0 ∷ 0x1000000000000000 ∷ 0x0100000000000000 ∷ 0x1100000000000000 ∷ []) (2000 ∷ 400 ∷ 100 ∷ 20 ∷ []) [] 4 0 0 0
    -- of equal products the lowest code, though the node of the other was queued first
    ∷ plain products_tied 16 8 4 [] 1000
    gives lists all (0 ∷ 0x0100000000000000 ∷ 0x1000000000000000 ∷ 0x1100000000000000 ∷ []) (18 ∷ 12 ∷ 12 ∷ 8 ∷ []) [] 4 0 0 0
    -- a node's best state takes the greatest weight, here the last: {first = 1} comes before the states with the second at 0 or 1
    ∷ plain greatest_last 16 8 4 [] 1000
    gives lists all (0x0200000000000000 ∷ 0x1200000000000000 ∷ 0x0100000000000000 ∷ 0x1100000000000000 ∷ 0 ∷ 0x1000000000000000 ∷ []) (81 ∷ 72 ∷ 27 ∷ 24 ∷ 9 ∷ 8 ∷ []) [] 6 0 0 0
    -- the lowest of two values of greatest weight counts: the node {second = 1}, with the best state 0 1, comes before the state 1 0
    ∷ plain weights_tied 2 3 2 (second ∷ 0x0200000000000000 ∷ []) 1000
    gives lists all (0 ∷ 0x1000000000000000 ∷ []) (45 ∷ 45 ∷ []) (second ∷ 0x0200000000000000 ∷ second ∷ 0x0100000000000000 ∷ []) 3 1 0 2
    -- a hidden variable has no weight, and is shown
    ∷ plain hidden_two 16 8 4 [] 1000 gives shows all (0 ∷ 0x1000000000000000 ∷ []) (7 ∷ 7 ∷ []) ((0 ∷ 2 ∷ []) ∷ (1 ∷ 2 ∷ []) ∷ []) [] 2 0 0 6
    -- weights 1 and 255; D 8, and the greatest product
    ∷ plain one_to255 16 8 4 [] 1000 gives lists all (0x1000000000000000 ∷ 0 ∷ []) (255 ∷ 1 ∷ []) [] 2 0 0 0
    ∷ plain eight_parts 2 1 0 [] 1000 gives lists all (0 ∷ []) (17878103347812890625 ∷ []) [] 1 0 0 0
    ∷ []

pub weighings-are : weight_answers weighings ≡ expected weighings
unfolding weighings weight_answers expected plain weight_tail small_weights sums_differ products_tied greatest_last weights_tied hidden_two one_to255 eight_parts three products by_weights
weighings-are = refl

-- the steps and endings of the first edition
unfoldable pub endings : List Row
endings =
    -- 'enough', and 'all' where the k-th state is the last
    plain small_weights 2 8 4 [] 1000
    gives lists enough (0x0100000000000000 ∷ 0x1000000000000000 ∷ []) (12000 ∷ 7200 ∷ []) (both ∷ 0 ∷ []) 3 1 0 14
    ∷ plain small_weights 3 8 4 [] 1000 gives by_weights
    -- a queue of 2 entries, and of 3
    ∷ plain small_weights 16 2 4 [] 1000 gives lists full [] [] [] 0 0 0 0
    ∷ plain small_weights 16 3 4 [] 1000 gives by_weights
    -- limits 13 and 15, and 5 inside a reduction
    ∷ plain small_weights 16 8 4 [] 13 gives lists Ending.spent (0x0100000000000000 ∷ []) (12000 ∷ []) (both ∷ 0 ∷ []) 2 1 0 13
    ∷ plain small_weights 16 8 4 [] 15 gives by_weights
    ∷ plain small_weights 16 8 4 [] 5 gives strikes [] [] [] 1 0 0 5
    -- the store offers {selector=0, clutch=0}; {selector=1}, which is dropped
    ∷ plain small_weights 16 8 4 (both ∷ 0 ∷ []) 1000 gives lists all three products (both ∷ 0 ∷ []) 3 0 0 5
    ∷ plain small_weights 16 8 4 (selector ∷ 0x1000000000000000 ∷ []) 1000 gives lists all three products (both ∷ 0 ∷ []) 4 1 0 17
    -- no room in the store
    ∷ plain small_weights 16 8 0 [] 1000 gives lists all three products [] 4 0 1 5
    ∷ []

pub endings-are : weight_answers endings ≡ expected endings
unfolding endings weight_answers expected plain weight_tail small_weights three products by_weights
endings-are = refl

-- ---- the export

unfoldable pub weight_export_of : Settings → List ℕ → Exported
unfolding weight_call export_with weights_export exported_of
weight_export_of s result = weights_export s.sheet s.k (lent s) s.held s.limit result

unfoldable pub weight_exported : List ExportRow → List Exported
unfolding weight_export_of lent
weight_exported rows = map (λ r. weight_export_of r.row.given r.lent_result) rows

unfoldable pub weight_exports : List ExportRow
weight_exports =
    -- with six words, and with one more that is unchanged
    exporting (plain small_weights 16 8 4 [] 1000 gives by_weights) (nines 7) 0 (2 ∷ 3 ∷ 4 ∷ 1 ∷ 0 ∷ 15 ∷ 9 ∷ [])
    ∷ exporting (plain small_weights 16 8 4 [] 5 gives strikes [] [] [] 1 0 0 5) (nines 6) 0 (4 ∷ 0 ∷ 1 ∷ 0 ∷ 0 ∷ 5 ∷ [])
    -- a conflict is offered
    ∷ exporting (plain small_weights 16 8 4 (both ∷ 0 ∷ []) 1000 gives lists all three products (both ∷ 0 ∷ []) 3 0 0 5) (nines 6) 0 (2 ∷ 3 ∷ 3 ∷ 0 ∷ 0 ∷ 5 ∷ [])
    -- fewer than six: 2, before the sheet; the sheet of edition 1
    ∷ exporting (plain small 16 8 4 [] 1000 gives refusal (by_host 2)) (nines 5) 2 (nines 5)
    ∷ exporting (plain small 16 8 4 [] 1000 gives refusal (by_author 6)) (nines 6) 6 (nines 6)
    ∷ []

pub weight_exports-are : weight_exported weight_exports ≡ export_wanted weight_exports
unfolding weight_exports weight_exported export_wanted weight_export_of plain tail small weight_tail small_weights three products by_weights
weight_exports-are = refl

-- ---- the small plant with weights, and its whole set

unfoldable pub weight_plant : Plant
unfolding small_plant
weight_plant = record { costs = (200 ∷ 40 ∷ []) ∷ (180 ∷ 60 ∷ []) ∷ []; states = 2 ∷ []; clauses = small_plant.clauses }

unfoldable pub read_weights : Read Plant
unfolding weight_call
read_weights = read_sheet edition2 small_weights

pub weights-read : read_weights ≡ Read.got weight_plant 128
unfolding read_weights weight_call weight_tail small_weights weight_plant small_plant
weights-read = refl

pub weights-whole : whole_set weight_plant (order_of edition2 weight_plant) ≡
    record { code = 0x0100000000000000; figure = 12000 } ∷ record { code = 0x1000000000000000; figure = 7200 } ∷ record { code = 0x1100000000000000; figure = 2400 } ∷ []
unfolding whole_set leading_states place place_all is_consistent all_hold clause_holds literal_holds holds_at weight_plant small_plant edition2 order_of before number
weights-whole = refl

-- weights 6, 4 and 3, 2, no clauses: of equal products the lowest code
unfoldable pub tied_plant : Plant
tied_plant = record { costs = (6 ∷ 4 ∷ []) ∷ (3 ∷ 2 ∷ []) ∷ []; states = []; clauses = [] }

pub tied-whole : whole_set tied_plant (order_of edition2 tied_plant) ≡
    record { code = 0; figure = 18 }
    ∷ record { code = 0x0100000000000000; figure = 12 }
    ∷ record { code = 0x1000000000000000; figure = 12 }
    ∷ record { code = 0x1100000000000000; figure = 8 }
    ∷ []
unfolding whole_set leading_states place place_all is_consistent all_hold clause_holds literal_holds holds_at tied_plant edition2 order_of before number
tied-whole = refl

-- weights 100, 20 and 20, 1, no clauses: the product before the code
unfoldable pub crossed_plant : Plant
crossed_plant = record { costs = (100 ∷ 20 ∷ []) ∷ (20 ∷ 1 ∷ []) ∷ []; states = []; clauses = [] }

pub crossed-whole : whole_set crossed_plant (order_of edition2 crossed_plant) ≡
    record { code = 0; figure = 2000 }
    ∷ record { code = 0x1000000000000000; figure = 400 }
    ∷ record { code = 0x0100000000000000; figure = 100 }
    ∷ record { code = 0x1100000000000000; figure = 20 }
    ∷ []
unfolding whole_set leading_states place place_all is_consistent all_hold clause_holds literal_holds holds_at crossed_plant edition2 order_of before number
crossed-whole = refl

-- ---- single definitions

-- of costs the lesser is better, of products the greater, and neither of two equal ones
pub better-costs : better false 1 2 ∷ better false 2 1 ∷ better false 2 2 ∷ [] ≡ true ∷ false ∷ false ∷ []
better-costs = refl

pub better-products : better true 1 2 ∷ better true 2 1 ∷ better true 2 2 ∷ [] ≡ false ∷ true ∷ false ∷ []
better-products = refl

-- costs are added, weights are multiplied
pub joined : join false 3 5 ∷ join true 3 5 ∷ [] ≡ 8 ∷ 15 ∷ []
joined = refl

-- of no variables the cost is 0 and the product 1; of three variables
pub figures_of : cost [] [] ∷ chance [] [] ∷ cost ((2 ∷ 3 ∷ []) ∷ (5 ∷ []) ∷ (7 ∷ 1 ∷ 4 ∷ []) ∷ []) (1 ∷ 0 ∷ 2 ∷ []) ∷ chance ((2 ∷ 3 ∷ []) ∷ (5 ∷ []) ∷ (7 ∷ 1 ∷ 4 ∷ []) ∷ []) (1 ∷ 0 ∷ 2 ∷ []) ∷ []
    ≡ 0 ∷ 1 ∷ 12 ∷ 60 ∷ []
figures_of = refl

-- the value of greatest weight, the lowest on a tie, also at the end
pub greatest_values : map (best_value true) ((1 ∷ 3 ∷ 3 ∷ 2 ∷ []) ∷ (2 ∷ 2 ∷ []) ∷ (2 ∷ 2 ∷ 3 ∷ []) ∷ (5 ∷ []) ∷ []) ≡ 1 ∷ 0 ∷ 2 ∷ 0 ∷ []
greatest_values = refl

-- the order of edition 2 on the weights 6, 4 and 3, 2: 0 1 before 1 0, which has the same product, 0 0 before either, none before itself
unfoldable pub tied_order : Order
tied_order = order_of edition2 tied_plant

pub tied-order : before tied_order (0 ∷ 1 ∷ []) (1 ∷ 0 ∷ []) ∷ before tied_order (1 ∷ 0 ∷ []) (0 ∷ 1 ∷ []) ∷ before tied_order (0 ∷ 0 ∷ []) (0 ∷ 1 ∷ [])
    ∷ before tied_order (0 ∷ 1 ∷ []) (0 ∷ 0 ∷ []) ∷ before tied_order (1 ∷ 0 ∷ []) (1 ∷ 0 ∷ []) ∷ []
    ≡ true ∷ false ∷ true ∷ false ∷ false ∷ []
unfolding tied_order tied_plant edition2 order_of before number
tied-order = refl

-- its best values, and its figures
pub tied-best : tied_order.preferred ++ (tied_order.figure (1 ∷ 1 ∷ []) ∷ []) ≡ 0 ∷ 0 ∷ 8 ∷ []
unfolding tied_order tied_plant edition2 order_of
tied-best = refl

-- the numbers of the edition with costs and of the one with weights
pub editions : (edition_of false).number ∷ (edition_of true).number ∷ [] ≡ 1 ∷ 2 ∷ []
unfolding edition1 edition2
editions = refl
