-- What a fault of the heap reports, case by case.
use Rattle.std.specs.Prelude.{ℕ, Ok, Err, Result}
use Rattle.cells.specs.Meaning.{fault_number}
use Rattle.rules.specs.declared.Layer.{Layer}
use Rattle.rules.specs.Calls.{Act, refuse}
use Rattle.arena.specs.declared.faults.Rule.{Rule}
use Rattle.arena.specs.declared.faults.HeapFault.{HeapFault}
use Rattle.arena.specs.declared.faults.HeapFault.TheVariants.{Cells, NoField, BadMake, LongText, NoRoom, Unlawful}

-- The number of a rule of a lawful arena.
abbrev pub rule_number : Rule → ℕ
rule_number Rule.Next = 1
rule_number Rule.Titles = 2
rule_number Rule.Values = 3
rule_number Rule.Links = 4
rule_number Rule.Padding = 5
rule_number Rule.Chains = 6
rule_number Rule.Texts = 7

-- The store's faults keep their numbers.
abbrev pub heap_number : HeapFault → ℕ
heap_number (Cells s place) = fault_number s
heap_number (NoField k) = 10
heap_number BadMake = 11
heap_number LongText = 12
heap_number NoRoom = 16
heap_number (Unlawful rule cell) = 17

abbrev pub heap_layer : HeapFault → Layer
heap_layer (Cells s place) = Layer.Store
heap_layer (NoField k) = Layer.Heap
heap_layer BadMake = Layer.Heap
heap_layer LongText = Layer.Heap
heap_layer NoRoom = Layer.Heap
heap_layer (Unlawful rule cell) = Layer.Heap

-- The first bad character, the field, or the cell that breaks a rule.
abbrev pub heap_place : HeapFault → ℕ
heap_place (Cells s place) = place
heap_place (NoField k) = k
heap_place BadMake = 0
heap_place LongText = 0
heap_place NoRoom = 0
heap_place (Unlawful rule cell) = cell

abbrev pub heap_rule : HeapFault → ℕ
heap_rule (Cells s place) = 0
heap_rule (NoField k) = 0
heap_rule BadMake = 0
heap_rule LongText = 0
heap_rule NoRoom = 0
heap_rule (Unlawful rule cell) = rule_number rule

-- What a call comes to after a check of the heap: the act, or the refusal at a register.
abbrev pub heap_then : Result (Unit {0}) HeapFault → ℕ → Act → Act
heap_then (Ok u) r a = a
heap_then (Err h) r a = refuse (heap_number h) (heap_layer h) r (heap_place h)
