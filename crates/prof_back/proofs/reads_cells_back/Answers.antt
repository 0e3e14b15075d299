use Rattle.prof_back.proofs.Cells.{index_back, phase_back, maybe_index_back, resource_back, truth_back, time_back, maybe_time_back, unit_back, weight_back}
use Rattle.prof_back.proofs.reads_cells_back.Goals as goal

pub returns : goal.returns
returns c = record { index = index_back; phase = phase_back; maybe_index = maybe_index_back; resource = resource_back; truth = truth_back; time = time_back; maybe_time = maybe_time_back; unit = unit_back; weight = weight_back }
