use Rattle.prof_back.proofs.Frames.{strings_back, resources_back, frames_back, stack_frames_back}
use Rattle.prof_back.proofs.reads_frames_back.Goals as goal

pub returns : goal.returns
returns c = record { strings = strings_back; resources = resources_back; frames = frames_back; stack_frames = stack_frames_back }
