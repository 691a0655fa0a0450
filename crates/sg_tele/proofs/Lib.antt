mod Novelty
