-- An entry's words and the order of entries. Another packing takes this one's place here, in `entry_of` and the methods of `Entry` in src/, and in proofs/EntryLaws.antt: nothing else reads its text. Assumes nothing: these are definitions.
use Rattle.std.specs.Prelude.{◌≡◌, Bool, true, false, ◌&&◌, ◌||◌, List, ℕ, ◌+◌, ◌-◌, ◌*◌, ◌/◌, ◌%◌, ◌^◌, ◌≤◌, ◌<◌, ltb, eqb, length}
use Rattle.model.specs.Lists.{All}
use Rattle.model.specs.Assignment.{Assignment, Fits, Valid, mask_of, code}
use Rattle.model.specs.Order.{Order, Before, best}

-- an entry: its two words
abbrev pub Item : Type 0
Item = ℕ × ℕ

-- the two words of a node, from the figure and the code of its best state and from its mask: one number, in which first what the order goes by stands and at the end the mask's sixteen top bits.
-- Of edition 1: the cost (20 bits), five bits that are zero, the code (64); of edition 2: the product turned round (64), five bits that are zero, the code's upper half (32), which is all of it.
unfoldable pub packed : Bool → (figure code mask : ℕ) → Item
packed false figure code mask = (figure * 2 ^ 44 + code / 2 ^ 25, code % 2 ^ 25 * 2 ^ 39 + mask / 2 ^ 48)
packed true figure code mask = (2 ^ 64 - 1 - figure, code / 2 ^ 32 * 2 ^ 27 + mask / 2 ^ 48)

-- the entry of a node
unfoldable pub entry_of : Order → Assignment → Item
entry_of o n = packed o.weighed (o.figure (best o.preferred n)) (code (best o.preferred n)) (mask_of n)

-- what stands in an entry: its node's mask, and the code and the figure of the node's best state
abbrev pub mask_in : ℕ → ℕ
mask_in b = b * 2 ^ 48 % 2 ^ 64

abbrev pub code_in : Bool → Item → ℕ
code_in false e = e.0 * 2 ^ 25 % 2 ^ 64 + e.1 / 2 ^ 39
code_in true e = e.1 / 2 ^ 27 * 2 ^ 32 % 2 ^ 64

abbrev pub figure_in : Bool → ℕ → ℕ
figure_in false a = a / 2 ^ 44
figure_in true a = 2 ^ 64 - 1 - a

-- one entry comes before another: two words are compared, and nothing else
unfoldable pub comes_before : Item → Item → Bool
comes_before x y = ltb x.0 y.0 || (eqb x.0 y.0 && ltb x.1 y.1)

-- x is due no later than y: y does not come before x
abbrev pub Due : Item → Item → Type 0
Due x y = comes_before y x ≡ false

-- entries of nodes over these domains come in the order of the nodes' best states
abbrev pub Keyed : List ℕ → Order → Type 0
Keyed ss o = (m n : Assignment) → Valid ss m → Valid ss n → Before o (best o.preferred m) (best o.preferred n) → comes_before (entry_of o m) (entry_of o n) ≡ true

-- a figure has room in an entry
abbrev pub FigureFits : Bool → ℕ → Type 0
FigureFits false figure = figure < 2 ^ 20
FigureFits true figure = figure < 2 ^ 64

-- nodes over these domains can be read from their entries: at most sixteen domains of at most sixteen values, which the preferred values are in, with weights at most eight, and figures that have room
pub record Suits (ss : List ℕ) (o : Order) : Type 0 where
  pub few : length ss ≤ 16
  pub fewer : o.weighed ≡ true → length ss ≤ 8
  pub small : All (λ s. s ≤ 16) ss
  pub preferred : Fits ss o.preferred
  pub figures : (f : List ℕ) → Fits ss f → FigureFits o.weighed (o.figure f)
