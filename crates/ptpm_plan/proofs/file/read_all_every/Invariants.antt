use Rattle.std.proofs.Common.{◌≡◌, drop, length, map}
use Rattle.toml.specs.View.{table_view, view}
use Rattle.ptpm_plan.specs.FileText.{all_every_in, clock_value, every_in, every_value, read_each}
use Rattle.ptpm_plan.proofs.file.read_all_every.Given as goal

-- what is ahead, after those that are read, makes them all
abbrev pub invariant-loop-value : goal.invariant-loop-value
invariant-loop-value l = record {
  count : length l.every.items ≡ l.value-index;
  all : read_each (λ before. every_in (map clock_value l.clocks) (length before)) (map every_value l.every.items)
      (map view (drop l.value-index l.values))
      ≡ all_every_in (map clock_value l.clocks) (table_view l.table);
}
