use Rattle.wire_pattern.specs.Instances.{instance_text}
use Rattle.wire_instances.specs.Views.{cast_by}
use Rattle.wire_instances.proofs.Fronts.{all_written}
use Rattle.wire_instances.proofs.text.write_instance.Goals as goal

pub returns : goal.returns
returns c = all_written c.write_front.result (instance_text c.args.pattern.now (cast_by c.args.cast.now)) c.write_front.ensures
