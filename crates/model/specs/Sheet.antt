-- Specification, "Plant sheet": the bits of a sheet, what it says, and refusals 5 to 13 and 20 in reading order. Assumes nothing: these are definitions.
use Rattle.std.specs.Prelude.{ℕ, zero, suc, ◌+◌, ◌-◌, ◌*◌, ◌/◌, ◌%◌, List, [], ◌∷◌, ◌++◌, map, Bool, true, false, ◌&&◌, length, get_or, ltb, leb, eqb}
use Rattle.model.specs.Digits.{number, digits}

-- ---- what a sheet says

-- a literal: the variable, the sign (0 equal, 1 unequal), the value
pub record Literal : Type 0 where
  pub variable : ℕ
  pub sign : ℕ
  pub value : ℕ

-- a plant: for each decision variable the cost of each of its values (in edition 2 the weight), for each state variable the size of its domain, and the clauses
pub record Plant : Type 0 where
  pub costs : List (List ℕ)
  pub states : List ℕ
  pub clauses : List (List Literal)

-- the sizes of the decision variables' domains
abbrev pub decision_sizes : Plant → List ℕ
decision_sizes p = map length p.costs

-- the sizes of all domains: variables are numbered with the decision variables first
abbrev pub sizes : Plant → List ℕ
sizes p = decision_sizes p ++ p.states

-- ---- bit fields

-- the bit at a place: bits are packed, most significant first, from byte 0
unfoldable pub bit_at : List ℕ → ℕ → ℕ
bit_at sheet place = get_or (digits 2 8 (get_or sheet (place / 8) 0)) (place % 8) 0

-- the w bits from a place on
unfoldable pub bits_at : List ℕ → ℕ → ℕ → List ℕ
bits_at sheet zero place = []
bits_at sheet (suc w) place = bit_at sheet place ∷ bits_at sheet w (place + 1)

-- what a reading gives: a refusal's number, or something read and the place after it
pub data Read (A : Type 0) : Type 0 where
  refused : ℕ → Read A
  got : A → ℕ → Read A

-- one reading after another
unfoldable pub then : {A B : Type 0} → Read A → (A → ℕ → Read B) → Read B
then (refused n) next = refused n
then (got a place) next = next a place

-- n readings of one kind
unfoldable pub many : {A : Type 0} → (ℕ → Read A) → ℕ → ℕ → Read (List A)
many item zero place = got [] place
many item (suc n) place = then (item place) (λ a after. then (many item n after) (λ others end. got (a ∷ others) end))

-- the unsigned field of w bits at a place; 5: it runs past the end
unfoldable pub field : List ℕ → ℕ → ℕ → Read ℕ
field sheet w place = elim (leb (place + w) (8 * length sheet)) [
  | true ↦ got (number 2 w (bits_at sheet w place)) (place + w)
  | false ↦ refused 5
]

-- ---- the sheet

-- what differs between editions of the sheet: the number, the most decision variables, the width of a cost, and whether weights stand where costs stood
pub record Edition : Type 0 where
  pub number : ℕ
  pub most : ℕ
  pub cost_bits : ℕ
  pub weighed : Bool

unfoldable pub edition1 : Edition
edition1 = record { number = 1; most = 16; cost_bits = 16; weighed = false }

-- chances in 256ths in place of costs
unfoldable pub edition2 : Edition
edition2 = record { number = 2; most = 8; cost_bits = 8; weighed = true }

-- the edition whose figures are weights, or the one whose figures are costs
abbrev pub edition_of : Bool → Edition
edition_of false = edition1
edition_of true = edition2

-- whether an edition allows this many decision variables
unfoldable pub decisions_allowed : Edition → ℕ → Bool
decisions_allowed e d = leb 1 d && leb d e.most

module _ (sheet : List ℕ) where
  -- a state variable: domain size less 1
  unfoldable pub read_state : ℕ → Read ℕ
  read_state place = then (field sheet 4 place) (λ n after. got (n + 1) after)

  -- a literal, over domains of these sizes; 10: its variable is absent; 11: its value is outside the domain
  unfoldable pub read_literal : List ℕ → ℕ → Read Literal
  read_literal domains place =
      then (field sheet 6 place) (λ v after.
      elim (ltb v (length domains)) [
        | false ↦ refused 10
        | true ↦
            then (field sheet 1 after) (λ s after.
            then (field sheet 4 after) (λ x after.
            elim (ltb x (get_or domains v 0)) [
              | false ↦ refused 11
              | true ↦
                  got (record { variable = v; sign = s; value = x }) after
            ]))
      ])

  -- a clause: the literal count, then the literals
  unfoldable pub read_clause : List ℕ → ℕ → Read (List Literal)
  read_clause domains place = then (field sheet 4 place) (λ n after. many (read_literal domains) n after)

  -- the n filler bits from a place on; 12: one of them is not zero
  unfoldable pub read_filler : ℕ → ℕ → Read ℕ
  read_filler zero place = got 0 place
  read_filler (suc n) place = elim (eqb (bit_at sheet place) 0) [ false ↦ refused 12 | true ↦ read_filler n (place + 1) ]

  -- the filler up to the byte's end, then nothing; 13: bytes after it
  unfoldable pub read_end : Plant → ℕ → Read Plant
  read_end p place =
      then (read_filler ((8 - place % 8) % 8) place) (λ zeros end.
      elim (eqb end (8 * length sheet)) [ false ↦ refused 13 | true ↦ got p end ])

module _ (e : Edition) (sheet : List ℕ) where
  -- a cost, or a weight; 20: a weight is zero
  unfoldable pub read_figure : ℕ → Read ℕ
  read_figure place = then (field sheet e.cost_bits place) (λ c after. elim (e.weighed && eqb c 0) [ true ↦ refused 20 | false ↦ got c after ])

  -- a decision variable: domain size less 1, then for each value a cost or a weight
  unfoldable pub read_decision : ℕ → Read (List ℕ)
  read_decision place = then (field sheet 4 place) (λ n after. many read_figure (n + 1) after)

  -- what follows the four counts
  unfoldable pub read_body : ℕ → ℕ → ℕ → ℕ → Read Plant
  read_body d s c place =
      then (many read_decision d place) (λ costs after.
      then (many (read_state sheet) s after) (λ states after.
      then (many (read_clause sheet (map length costs ++ states)) c after) (λ clauses after.
      read_end sheet (record { costs = costs; states = states; clauses = clauses }) after)))

  -- the sheet whole; 6: the edition; 7, 8, 9: the numbers of decision variables, of state variables and of clauses
  unfoldable pub read_sheet : Read Plant
  read_sheet =
      then (field sheet 8 0) (λ n after.
      elim (eqb n e.number) [
        | false ↦ refused 6
        | true ↦
            then (field sheet 5 after) (λ d after.
            elim (decisions_allowed e d) [
              | false ↦ refused 7
              | true ↦
                  then (field sheet 6 after) (λ s after.
                  elim (leb s 32) [
                    | false ↦ refused 8
                    | true ↦
                        then (field sheet 10 after) (λ c after.
                        elim (leb c 512) [
                          | false ↦ refused 9
                          | true ↦
                              read_body d s c after
                        ])
                  ])
            ])
      ])

-- the sheet read by the edition that its first byte says: test and reduction take both editions, and 6 is for any other
unfoldable pub read_either : List ℕ → Read Plant
read_either sheet = elim (eqb (get_or sheet 0 0) 2) [ true ↦ read_sheet edition2 sheet | false ↦ read_sheet edition1 sheet ]
