use Rattle.cmd_receive.proofs.receivers.ReceiverModeReceiver.finish.Goals as goal

pub finish-requires-sync-R : goal.finish-requires-sync-R
finish-requires-sync-R g c κs within = record { shared = c.requires.threads.shared }
